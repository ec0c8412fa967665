pub mod Widths
pub mod WidthLaws
pub mod RunLaws
pub mod WindowLaws
pub mod Splice
pub mod Cursors
pub mod SpliceLaws
pub mod CursorLaws
