pub mod DigestLaws
pub mod NumberLaws
pub mod PlaceLaws
pub mod TextLaws
