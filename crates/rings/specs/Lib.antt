pub mod RingNodes
pub mod Ends
pub mod Rings
pub mod Links
pub mod Chains
