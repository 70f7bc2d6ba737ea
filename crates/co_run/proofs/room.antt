-- The room for notes is enough where a service begins, and an actor is refused memory only between two services.
pub mod RoomLeft
pub mod BetweenServices
pub mod Asking
