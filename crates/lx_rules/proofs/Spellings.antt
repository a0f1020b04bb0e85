-- Configurations: what they say, and the spellings that they set.
pub mod AllowedSettings
pub mod SaidTexts
pub mod SpelledNames
pub mod TokenTexts
