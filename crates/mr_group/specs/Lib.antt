pub mod Print
pub mod Interner
pub mod Column
pub mod Buckets
pub mod FirstBytes
pub mod Rows
