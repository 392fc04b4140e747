pub mod LineLaws
pub mod WordLaws
pub mod TextLaws
