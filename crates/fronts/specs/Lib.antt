-- What the contracts of `fronts` cite.
pub mod Front
