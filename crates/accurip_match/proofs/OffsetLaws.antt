-- Laws of offsets: a list of what a function gives at each.
use Rattle.std.proofs.Common.{◌≡◌, ℕ, zero, suc, ◌+◌, ◌<◌, List, ◌∷◌, length, get_or, map, refl, ap, ◌∙◌}
use Rattle.std.specs.Prelude.{ℤ}
use Rattle.std.specs.List.{range_with_len}
use Rattle.std.proofs.lemmas.List.FromFn.{fill_by_all}
use Rattle.accurip_match.specs.Offsets.{offset_at, offsets_before}

map-range : (f : ℤ → ℕ) (a n : ℕ) → map (λ k. f (offset_at k)) (range_with_len a n) ≡ map f (map offset_at (range_with_len a n))
map-range f a zero = refl
map-range f a (suc n) = ap (λ xs. f (offset_at a) ∷ xs) (map-range f (a + 1) n)

pub row_whole : (f : ℤ → ℕ) (xs : List ℕ) (n : ℕ) → length xs ≡ n → ((k : ℕ) → k < n → get_or xs k 0 ≡ f (offset_at k)) → xs ≡ map f (offsets_before n)
unfolding offsets_before
row_whole f xs n long each = fill_by_all (λ k. f (offset_at k)) xs n 0 long each ∙ map-range f 0 n
