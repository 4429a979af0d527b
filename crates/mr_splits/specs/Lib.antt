pub mod Named
pub mod Laws
pub mod Cut
pub mod Places
pub mod Table
pub mod Belongs
pub mod Kept
