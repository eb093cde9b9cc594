pub mod RisingLaws
mod FreeLaws
mod PassLaws
mod AddLaws
pub mod AllowedLaws
pub mod RestrictionLaws
pub mod FaultLaws
