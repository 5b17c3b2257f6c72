pub mod StoreOutcome
