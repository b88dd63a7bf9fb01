-- Why what is read and well typed is formed.
pub mod AcceptedModules
pub mod PairedPrintable
