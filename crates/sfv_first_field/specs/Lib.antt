pub mod MobileHint
pub mod MaxAge
