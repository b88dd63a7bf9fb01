-- What a text means as a draft, or why it is none.
pub mod Answers
pub mod Bodies
pub mod Draft
pub mod Examples
pub mod Faults
pub mod Forms
pub mod Function
pub mod Items
pub mod Limits
pub mod Lines
pub mod Numbers
pub mod Opaque
pub mod Outlook
pub mod Position
pub mod Sizes
pub mod Steps
