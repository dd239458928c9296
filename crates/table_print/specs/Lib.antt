pub mod TablePrinting
pub mod Printable
pub mod Parts
pub mod AutoloadText
