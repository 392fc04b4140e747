pub mod FromFn
pub mod RangeLaws
