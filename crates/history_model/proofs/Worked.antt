-- The example histories, worked on the definitions.
pub mod Kit
pub mod CreateAndGet
pub mod SeenBeforeMade
pub mod UnchangedUpdate
pub mod Conflicts
pub mod RemovalSeenEarly
pub mod OneRemoval
pub mod RemovalWithoutPlace
pub mod OutOfTurn
pub mod HiddenWrite
