pub mod ByKind
pub mod Inverses
pub mod MetaTexts
pub mod NameTexts
pub mod RecordTexts
pub mod RootTexts
pub mod ShardTexts
pub mod Makings
