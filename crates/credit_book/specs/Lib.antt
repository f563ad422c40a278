pub mod Bucket
pub mod Classes
pub mod Laws
pub mod Watermark
