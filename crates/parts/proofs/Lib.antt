pub mod NameParts
pub mod RegionParts
pub mod RecordParts
pub mod OnePart
