pub mod PieceLaws
pub mod SizeLaws
pub mod DumpLaws
pub mod LineLaws
