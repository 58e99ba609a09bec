-- Tests of whole lists.

-- as many on both sides, and the test holds of each pair
pub use Rattle.std.specs.Cmp.Lexicographic.{pointwise as alike}
-- the test holds of each
pub use Rattle.std.specs.List.{list_all as all}
