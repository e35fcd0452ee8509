pub mod AcceptErrors
pub mod NetListeners
