pub mod Allowed
pub mod Faults
pub mod FreeDomains
pub mod Laws
pub mod Restrictions
