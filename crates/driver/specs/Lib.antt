-- What the contracts of `driver` cite, written from document 01 (module 7 and the refusal table): the calls without audio, and what each call answers.
pub mod Calls
pub mod Answers
pub mod Parts
