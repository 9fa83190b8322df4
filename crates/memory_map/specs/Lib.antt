pub mod Words
pub mod MemoryMap
pub mod Places
pub mod View
pub mod Spots
pub mod Laws
pub use Rattle.address_space.specs as address_space
pub use Rattle.event_places.specs as event_places
