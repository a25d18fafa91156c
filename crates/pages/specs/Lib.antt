pub mod Tickets
pub mod PagesOf
pub mod Transfers
pub mod Records
pub mod Backed
