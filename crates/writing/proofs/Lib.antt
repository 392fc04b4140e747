pub mod OutputLaws
pub mod FieldLaws
pub mod RecordLaws
pub mod FileLaws
