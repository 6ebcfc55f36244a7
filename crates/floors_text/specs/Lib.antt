-- What the contracts of `floors_text` cite, written from document 01's paragraph on `floors`.
pub mod Print
pub mod Lines
pub mod Text
pub mod TrueText
