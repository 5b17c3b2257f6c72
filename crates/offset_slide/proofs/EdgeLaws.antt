-- Laws of edges: more words of the image taken in.
use Rattle.std.proofs.Common.{rules, ◌≡◌, ℕ, ◌+◌, ◌-◌, ◌*◌, ◌^◌, ◌<◌, ◌≤◌, ◌++◌, List, length, get_or, arith, inl, inr, refl, subst, sym, ap, ◌∙◌, length-append}
use Rattle.std.specs.Prelude.{slice_range, max, min}
use Rattle.std.proofs.lemmas.Bool.{cases_lt}
use Rattle.std.proofs.lemmas.List.{get_or_append_left, get_or-append_right, places}
use Rattle.std.proofs.lemmas.List.Elements.{All-append}
use Rattle.std.proofs.lemmas.List.Edits.{get_or-between, length-between}
use borrow.Rule.Slice.PartMut.{put_mid}
use Rattle.column_map.specs.Image.{AreWords}
use Rattle.column_map.specs.Columns.{per_column, stride}
use Rattle.offset_slide.specs.Edges.{KeptEdges, EdgesStandFor, TakesPart}

-- what is kept of a list's words from a place on stays right when more words of it come
pub part_more : (first position count : ℕ) (y words old new : List ℕ) → position ≡ length y → length old ≡ count → TakesPart first position words old new
    → ((i : ℕ) → i < count → first + i < length y → get_or old i 0 ≡ get_or y (first + i) 0)
    → (i : ℕ) → i < count → first + i < length (y ++ words) → get_or new i 0 ≡ get_or (y ++ words) (first + i) 0
part_more first position count y words old new at long takes kept i l here =
    elim (cases_lt (first + i) position) [
      | inl before ↦
          let had : first + i < length y = omega arith in
          takes.before i before ∙ kept i l had ∙ sym (get_or_append_left y words 0 (first + i) had)
      | inr after ↦
          let off : first + i - length y ≡ first + i - position = omega arith in
          takes.own i (omega arith) after (omega (arith, length-append y words))
          ∙ ap (λ k. get_or words k 0) (sym off) ∙ sym (get_or-append_right y words (length y) (first + i) 0 refl (omega arith))
    ]

-- ---- one copy

mid_long : (words part : List ℕ) (i j : ℕ) → part ≡ slice_range words i j → i ≤ j → j ≤ length words → length part ≡ j - i
mid_long words part i j same l within = ap (λ (l : List ℕ). length l) same ∙ length-between words i j within

-- elements of a list in the middle of which a part was put in
mid_before : (at count i : ℕ) (old part : List ℕ) → i < at → at ≤ length old → get_or (put_mid at count old part) i 0 ≡ get_or old i 0
mid_before at count i old part l within = search (rules, places)

mid_own : (at count i : ℕ) (old part : List ℕ) → at ≤ i → i < at + length part → at ≤ length old → get_or (put_mid at count old part) i 0 ≡ get_or part (i - at) 0
mid_own at count i old part l low within = search (rules, places)

mid_after : (at count i : ℕ) (old part : List ℕ) → at + count ≤ i → length part ≡ count → at + count ≤ length old → get_or (put_mid at count old part) i 0 ≡ get_or old i 0
mid_after at count i old part l long within = search (rules, places)

mid_length : (at count : ℕ) (old part : List ℕ) → length part ≡ count → at + count ≤ length old → length (put_mid at count old part) ≡ length old
mid_length at count old part long within = search (rules, places)

-- the words that both have are copied
pub takes_overlap : (first position from end : ℕ) (words old part : List ℕ) → from ≡ max first position → end ≡ min (first + length old) (position + length words) → from < end
    → part ≡ slice_range words (from - position) (end - position) → TakesPart first position words old (put_mid (from - first) (end - first - (from - first)) old part)
takes_overlap first position from end words old part starts ends some copied =
    let at : ℕ = from - first in
    let count : ℕ = end - first - (from - first) in
    let long : length part ≡ count = mid_long words part (from - position) (end - position) copied (omega arith) (omega arith) ∙ omega arith in
    let within : at + count ≤ length old = omega arith in
    record {
      long = mid_length at count old part long within;
      own = λ i l above below.
          let here : from - position + (i - at) ≡ first + i - position = omega arith in
          mid_own at count i old part (omega arith) (omega (arith, long)) (omega arith)
          ∙ ap (λ (list : List ℕ). get_or list (i - at) 0) copied
          ∙ get_or-between words (from - position) (end - position) (i - at) 0 (omega arith)
          ∙ ap (λ k. get_or words k 0) here;
      before = λ i below. mid_before at count i old part (omega arith) (omega arith);
      after = λ i above. mid_after at count i old part (omega arith) long within;
    }

-- ---- edges

-- words taken into what is kept under other names
pub takes-same : (first start position : ℕ) (words old from new to : List ℕ) → first ≡ start → old ≡ from → new ≡ to → TakesPart first position words old new → TakesPart start position words from to
takes-same first start position words old from new to starts olds news takes =
    subst (λ n. TakesPart n position words from to) starts
    (subst (λ (list : List ℕ). TakesPart first position words list to) olds
    (subst (λ (list : List ℕ). TakesPart first position words old list) news takes))

-- edges that take all words of a piece stand for the list with it
pub stands_more : (kept next : KeptEdges) (y words : List ℕ) → EdgesStandFor kept y → AreWords words → next.sectors ≡ kept.sectors → next.position ≡ kept.position + length words
    → length kept.front ≡ 2 * stride → length kept.back ≡ 2 * stride → TakesPart 0 kept.position words kept.front next.front
    → TakesPart (per_column kept.sectors * stride) kept.position words kept.back next.back → EdgesStandFor next (y ++ words)
stands_more kept next y words now more sectors position front back first last =
    let same : per_column next.sectors * stride ≡ per_column kept.sectors * stride = ap (λ s. per_column s * stride) sectors in
    record {
      words = All-append (λ w. w < 2 ^ 16) y words now.words more;
      position = position ∙ omega (arith, length-append y words, now.position);
      front = λ i l here.
          let none : 0 + i ≡ i = omega arith in
          part_more 0 kept.position (2 * stride) y words kept.front next.front now.position front first
          (λ i l here. now.front i l (omega arith) ∙ ap (λ k. get_or y k 0) (let none : i ≡ 0 + i = omega arith in none)) i l (omega arith)
          ∙ ap (λ k. get_or (y ++ words) k 0) none;
      back = λ i l here.
          part_more (per_column kept.sectors * stride) kept.position (2 * stride) y words kept.back next.back now.position back last now.back i l
          (subst (λ n. n + i < length (y ++ words)) same here)
          ∙ ap (λ n. get_or (y ++ words) (n + i) 0) (sym same);
    }
