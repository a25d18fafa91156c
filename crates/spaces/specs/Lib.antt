pub mod Space
pub mod Places
pub mod Tables
