mod KnownLaws
mod ListingLaws
