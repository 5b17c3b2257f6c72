-- Laws of matches: those with one more block, at one more offset, and of one more track.
use Rattle.std.proofs.Common.{◌≡◌, ℕ, zero, suc, ◌+◌, ◌-◌, ◌<◌, ◌≤◌, true, false, List, [], ◌∷◌, ◌++◌, length, map, take, get_or, Option, None, Some, refl, sym, ap, ap₂, ◌∙◌, arith, append_assoc, append-nil}
use Rattle.std.specs.Prelude.{ℤ, ◌||◌}
use mir.Syntax.{w32}
use mir.Val.{SFits, of_z, to_z}
use Rattle.std.specs.List.{enumerate_from, flat_map, list_any, range_with_len}
use Rattle.std.specs.Ordering.{int_eq}
use Rattle.std.proofs.lemmas.Bool.{cond-false, cond-true, true_from_ne_false}
use Rattle.std.proofs.lemmas.Bool.Decides.{Decides-int_eq, not_from_Decides}
use Rattle.std.proofs.lemmas.Int.{to_z-of_z}
use Rattle.std.proofs.lemmas.List.{take_all, take_more}
use Rattle.std.proofs.lemmas.List.Concat.{flat_map-append}
use Rattle.std.proofs.lemmas.List.Folds.{list_any_at}
use Rattle.std.proofs.lemmas.List.FromFn.{get_or-enumerate_from, get_or-map-range_with_len, length-enumerate_from, length-map-range_with_len}
use Rattle.accurip_sums.specs.declared.pair.Sums.{Sums}
use Rattle.disc_ids.proofs.NumberLaws.{range-more}
use Rattle.disc_toc.specs.Toc.{Toc}
use Rattle.accurip_match.specs.declared.block.Block.{Block}
use Rattle.accurip_match.specs.declared.ids.DiscIds.{DiscIds}
use Rattle.accurip_match.specs.declared.listing.Match.{Match}
use Rattle.accurip_match.specs.declared.listing.V2Row.{V2Row}
use Rattle.accurip_match.specs.Matching.{block_matches, offset_matches, place_matches, track_matches, v2_rows, v2_where_picked}
use Rattle.accurip_match.specs.Offsets.{offset_at, offsets_before}
use Rattle.accurip_match.specs.Picking.{picked_offsets}
use Rattle.disc_ids.specs.Numbers.{tracks}
use Rattle.accurip_match.specs.Shifted.{shifted_sums}
use Rattle.accurip_match.proofs.PickingLaws.{offsets_before-more}

pub flat_map-push : {X : Type 0} (f : X → List Match) (xs : List X) (x : X) → flat_map f (xs ++ x ∷ []) ≡ flat_map f xs ++ f x
flat_map-push f xs x = flat_map-append f xs (x ∷ []) ∙ ap (λ l. flat_map f xs ++ l) (append-nil (f x))

-- ---- blocks

numbered_more : (blocks : List Block) (i : ℕ) (block : Block) → i < length blocks → block ≡ get_or blocks i block
    → take (i + 1) (enumerate_from 1 blocks) ≡ take i (enumerate_from 1 blocks) ++ (i + 1, block) ∷ []
numbered_more blocks i block inside is =
    let next : 1 + i ≡ i + 1 = omega arith in
    take_more (enumerate_from 1 blocks) i (0, block) (omega (arith, length-enumerate_from 1 blocks))
    ∙ ap (λ numbered. take i (enumerate_from 1 blocks) ++ numbered ∷ [])
    (get_or-enumerate_from 1 blocks i (0, block) inside ∙ ap₂ (λ (n : ℕ) (b : Block). (n, b)) next (sym is))

pub blocks_more : (f : ℕ × Block → List Match) (text : List Match) (blocks : List Block) (i : ℕ) (block : Block) → i < length blocks → block ≡ get_or blocks i block
    → (text ++ flat_map f (take i (enumerate_from 1 blocks))) ++ f (i + 1, block) ≡ text ++ flat_map f (take (i + 1) (enumerate_from 1 blocks))
blocks_more f text blocks i block inside is =
    append_assoc text (flat_map f (take i (enumerate_from 1 blocks))) (f (i + 1, block))
    ∙ ap (λ l. text ++ l) (sym (flat_map-push f (take i (enumerate_from 1 blocks)) (i + 1, block)) ∙ ap (flat_map f) (sym (numbered_more blocks i block inside is)))

pub blocks_all : (ids : DiscIds) (blocks : List Block) (t : ℕ) (d : ℤ) (v1 : ℕ) (v2 : Option ℕ) (i : ℕ) → i ≡ length blocks
    → flat_map (block_matches ids t d v1 v2) (take i (enumerate_from 1 blocks)) ≡ offset_matches ids blocks t d v1 v2
unfolding offset_matches
blocks_all ids blocks t d v1 v2 i all = ap (flat_map (block_matches ids t d v1 v2)) (take_all i (enumerate_from 1 blocks) (omega (arith, length-enumerate_from 1 blocks)))

-- ---- offsets

pub places_none : (toc : Toc) (blocks : List Block) (y : List ℕ) (t : ℕ) → track_matches toc blocks y (offsets_before 0) t ≡ []
unfolding track_matches offsets_before
places_none toc blocks y t = refl

pub places_more : (toc : Toc) (blocks : List Block) (y : List ℕ) (n t : ℕ)
    → track_matches toc blocks y (offsets_before (n + 1)) t ≡ track_matches toc blocks y (offsets_before n) t ++ place_matches toc blocks y t (offset_at n)
unfolding track_matches
places_more toc blocks y n t =
    ap (flat_map (place_matches toc blocks y t)) (offsets_before-more n) ∙ flat_map-push (place_matches toc blocks y t) (offsets_before n) (offset_at n)

-- ---- tracks

pub tracks_more : (f : ℕ → List Match) (n : ℕ) → flat_map f (range_with_len 1 (n + 1)) ≡ flat_map f (range_with_len 1 n) ++ f (n + 1)
tracks_more f n =
    let next : 1 + n ≡ n + 1 = omega arith in
    ap (flat_map f) (range-more 1 n) ∙ flat_map-push f (range_with_len 1 n) (1 + n) ∙ ap (λ t. flat_map f (range_with_len 1 n) ++ f t) next

-- ---- the rows of the picked offsets

-- two numbers of 32 bits are one where their bits are
pub same_bits : (a b : ℤ) → SFits w32 a → SFits w32 b → of_z w32 a ≡ of_z w32 b → a ≡ b
same_bits a b fits fits' bits = sym (to_z-of_z w32 a fits) ∙ ap (to_z w32) bits ∙ to_z-of_z w32 b fits'

equal_to_itself : (d : ℤ) → int_eq d d ≡ true
equal_to_itself d = true_from_ne_false (int_eq d d) (λ e. not_from_Decides (int_eq d d) (Decides-int_eq d d) e refl)

module _ (toc : Toc) (y : List ℕ) where
  row_of : ℤ → V2Row
  row_of d = record { offset = d; sums = map (λ t. shifted_sums toc y t d) (tracks toc) }

  row_in : (picked : List ℤ) (i : ℕ) (row : V2Row) → i < length (map row_of picked) → row ≡ get_or (map row_of picked) i row → row ≡ row_of row.offset
  unfolding row_of
  row_in [] i row inside is = absurd (omega arith)
  row_in (d ∷ picked) zero row inside is = is ∙ ap row_of (sym (ap (λ (row : V2Row). row.offset) is))
  row_in (d ∷ picked) (suc i) row inside is = row_in picked i row (omega arith) is

  any_row : (picked : List ℤ) (d : ℤ) → list_any (λ (row : V2Row). int_eq d row.offset) (map row_of picked) ≡ list_any (int_eq d) picked
  unfolding row_of
  any_row [] d = refl
  any_row (e ∷ picked) d = ap (λ b. int_eq d e || b) (any_row picked d)

  rows_are : (blocks : List Block) → v2_rows toc blocks y ≡ map row_of (picked_offsets toc blocks y)
  unfolding row_of v2_rows
  rows_are blocks = refl

  row_at : (blocks : List Block) (rows : List V2Row) (i : ℕ) (row : V2Row) → rows ≡ v2_rows toc blocks y → i < length rows → row ≡ get_or rows i row → row ≡ row_of row.offset
  row_at blocks rows i row are inside is =
      let all : rows ≡ map row_of (picked_offsets toc blocks y) = are ∙ rows_are blocks in
      row_in (picked_offsets toc blocks y) i row (omega (arith, ap (λ (l : List V2Row). length l) all)) (is ∙ ap (λ (l : List V2Row). get_or l i row) all)

  sums_in : (d : ℤ) → (row_of d).sums ≡ map (λ t. shifted_sums toc y t d) (tracks toc)
  unfolding row_of
  sums_in d = refl

  picked_at : (blocks : List Block) (t : ℕ) (d : ℤ) → list_any (int_eq d) (picked_offsets toc blocks y) ≡ true → v2_where_picked toc blocks y t d ≡ Some (shifted_sums toc y t d).v2
  unfolding v2_where_picked
  picked_at blocks t d here = cond-true _ (Some (shifted_sums toc y t d).v2) None here

  not_picked : (blocks : List Block) (t : ℕ) (d : ℤ) → list_any (int_eq d) (picked_offsets toc blocks y) ≡ false → v2_where_picked toc blocks y t d ≡ None
  unfolding v2_where_picked
  not_picked blocks t d none = cond-false _ (Some (shifted_sums toc y t d).v2) None none

  any_in : (blocks : List Block) (rows : List V2Row) (d : ℤ) → rows ≡ v2_rows toc blocks y → list_any (λ (row : V2Row). int_eq d row.offset) rows ≡ list_any (int_eq d) (picked_offsets toc blocks y)
  any_in blocks rows d are = ap (list_any (λ (row : V2Row). int_eq d row.offset)) (are ∙ rows_are blocks) ∙ any_row (picked_offsets toc blocks y) d

  pub row_long : (blocks : List Block) (rows : List V2Row) (i : ℕ) (row : V2Row) → rows ≡ v2_rows toc blocks y → i < length rows → row ≡ get_or rows i row → length row.sums ≡ length toc.starts
  row_long blocks rows i row are inside is =
      ap (λ (row : V2Row). length row.sums) (row_at blocks rows i row are inside is) ∙ ap (λ (l : List Sums). length l) (sums_in row.offset)
      ∙ length-map-range_with_len (λ t. shifted_sums toc y t row.offset) 1 (length toc.starts)

  pub v2_found : (blocks : List Block) (rows : List V2Row) (i : ℕ) (row : V2Row) (t : ℕ) (d : ℤ) (sums : Sums) → rows ≡ v2_rows toc blocks y → i < length rows → row ≡ get_or rows i row
      → row.offset ≡ d → 1 ≤ t → t ≤ length toc.starts → sums ≡ get_or row.sums (t - 1) sums → Some sums.v2 ≡ v2_where_picked toc blocks y t d
  v2_found blocks rows i row t d sums are inside is here some within at =
      let passes : int_eq d (get_or rows i row).offset ≡ true = ap (λ (row : V2Row). int_eq d row.offset) (sym is) ∙ ap (int_eq d) here ∙ equal_to_itself d in
      let found : sums ≡ shifted_sums toc y t d =
      at ∙ ap (λ (l : List Sums). get_or l (t - 1) sums) (ap (λ (row : V2Row). row.sums) (row_at blocks rows i row are inside is) ∙ ap (λ e. (row_of e).sums) here ∙ sums_in d)
      ∙ get_or-map-range_with_len (λ t. shifted_sums toc y t d) 1 (length toc.starts) (t - 1) t sums (omega arith) (omega arith) in
      ap (λ (s : Sums). Some s.v2) found
      ∙ sym (picked_at blocks t d (sym (any_in blocks rows d are) ∙ list_any_at (λ (row : V2Row). int_eq d row.offset) rows i row inside passes))

  pub v2_missing : (blocks : List Block) (rows : List V2Row) (i t : ℕ) (d : ℤ) → rows ≡ v2_rows toc blocks y → length rows ≤ i
      → list_any (λ (row : V2Row). int_eq d row.offset) (take i rows) ≡ false → None ≡ v2_where_picked toc blocks y t d
  v2_missing blocks rows i t d are all none =
      sym (not_picked blocks t d (sym (any_in blocks rows d are) ∙ ap (list_any (λ (row : V2Row). int_eq d row.offset)) (sym (take_all i rows all)) ∙ none))
