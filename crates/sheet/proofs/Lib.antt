pub mod SoundLaws
pub mod ChangeLaws
pub mod UndoLaws
pub mod OpenLaws
pub mod AnswerLaws
