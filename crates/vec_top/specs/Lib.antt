-- What the program promises: which texts are modules that it accepts and why it refuses the others (`Accepts`), what each command
-- makes of a module (`Results`), what stands at each reply (`Replies`), and that nothing but want of memory is in the way where
-- nothing is wrong (`Complete`).
pub mod Accepts
pub mod Complete
pub mod Counts
pub mod Results
pub mod Replies
pub mod Making
