-- Audio as a call lends it: planar, in bytes. What the contracts of `audio` cite, and what every layer above says of audio.
pub mod Bytes
pub mod Planar
pub mod Format
pub mod Inner
