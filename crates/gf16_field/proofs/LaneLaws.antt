-- Products by powers of α as shifts: of words, and of lists of lanes.
use Rattle.std.proofs.Common.{◌≡◌, ℕ, zero, suc, ◌+◌, ◌-◌, ◌*◌, ◌^◌, ◌<◌, ◌%◌, ◌/◌, List, [], ◌∷◌, length, map, replicate, bit_xor, refl, sym, ap, ap₂, ◌∙◌, arith}
use Rattle.std.specs.Simd.Lanes.{Each1, zip2}
use Rattle.std.proofs.lemmas.Nat.{xor_shr, xor_mod}
use Rattle.gf16_field.specs.Xor.{◌⊕◌}
use Rattle.gf16_field.specs.Gf16.{◌⊗◌, alpha_power, product, doubled, power}
use Rattle.gf16_field.proofs.XorLaws.{IsAdditive, xor_swap_middle}
use Rattle.gf16_field.proofs.FieldLaws.{shifted-xor, product_additive_right, one-product, product_assoc, product-lt}
use Rattle.gf16_field.proofs.PowerLaws.{power-zero, power-add, power-lt}
use Rattle.gf16_field.proofs.Computed.{same_values, additive_same}

-- ---- additive functions

shr_additive : (k : ℕ) → IsAdditive (λ x. x / 2 ^ k)
shr_additive k = record { sums = λ a b. xor_shr a b k }

shl_additive : (k : ℕ) → IsAdditive (λ x. x * 2 ^ k % 2 ^ 16)
shl_additive k = record { sums = λ a b. ap (λ x. x % 2 ^ 16) (shifted-xor k a b) ∙ xor_mod (a * 2 ^ k) (b * 2 ^ k) 16 }

both_additive : (F G : ℕ → ℕ) → IsAdditive F → IsAdditive G → IsAdditive (λ x. F x ⊕ G x)
both_additive F G f g = record { sums = λ a b. ap₂ (λ x y. x ⊕ y) (f.sums a b) (g.sums a b) ∙ xor_swap_middle (F a) (F b) (G a) (G b) }

after : (F G : ℕ → ℕ) → IsAdditive F → IsAdditive G → IsAdditive (λ x. F (G x))
after F G f g = record { sums = λ a b. ap F (g.sums a b) ∙ f.sums (G a) (G b) }

same_additive : IsAdditive (λ x. x)
same_additive = record { sums = λ a b. refl }

-- ---- the 16th power

-- the bits that come up past the 15th, where a word is multiplied by 0x100B
abbrev over : ℕ → ℕ
over x = (x / 2 ^ 4 ⊕ x / 2 ^ 13) ⊕ x / 2 ^ 15

abbrev whole : ℕ → ℕ
whole x = ((x ⊕ over x) ⊕ over x / 2 ^ 4) ⊕ over x / 2 ^ 8

abbrev pub sixteenth : ℕ → ℕ
sixteenth x = ((whole x ⊕ whole x * 2 ^ 1 % 2 ^ 16) ⊕ whole x * 2 ^ 3 % 2 ^ 16) ⊕ whole x * 2 ^ 12 % 2 ^ 16

over_additive : IsAdditive over
over_additive =
    both_additive (λ x. x / 2 ^ 4 ⊕ x / 2 ^ 13) (λ x. x / 2 ^ 15)
    (both_additive (λ x. x / 2 ^ 4) (λ x. x / 2 ^ 13) (shr_additive 4) (shr_additive 13)) (shr_additive 15)

whole_additive : IsAdditive whole
whole_additive =
    both_additive (λ x. (x ⊕ over x) ⊕ over x / 2 ^ 4) (λ x. over x / 2 ^ 8)
    (both_additive (λ x. x ⊕ over x) (λ x. over x / 2 ^ 4) (both_additive (λ x. x) over same_additive over_additive) (after (λ x. x / 2 ^ 4) over (shr_additive 4) over_additive))
    (after (λ x. x / 2 ^ 8) over (shr_additive 8) over_additive)

sixteenth_additive : IsAdditive sixteenth
sixteenth_additive =
    after (λ x. ((x ⊕ x * 2 ^ 1 % 2 ^ 16) ⊕ x * 2 ^ 3 % 2 ^ 16) ⊕ x * 2 ^ 12 % 2 ^ 16) whole
    (both_additive (λ x. (x ⊕ x * 2 ^ 1 % 2 ^ 16) ⊕ x * 2 ^ 3 % 2 ^ 16) (λ x. x * 2 ^ 12 % 2 ^ 16)
    (both_additive (λ x. x ⊕ x * 2 ^ 1 % 2 ^ 16) (λ x. x * 2 ^ 3 % 2 ^ 16) (both_additive (λ x. x) (λ x. x * 2 ^ 1 % 2 ^ 16) same_additive (shl_additive 1)) (shl_additive 3))
    (shl_additive 12))
    whole_additive

sixteenth_tests : (i : ℕ) → i < 16 → sixteenth (2 ^ i) ≡ alpha_power 16 ⊗ 2 ^ i
unfolding product power doubled
sixteenth_tests = same_values 16 (λ i. sixteenth (2 ^ i)) (λ i. alpha_power 16 ⊗ 2 ^ i) refl

pub sixteenth_is : (a : ℕ) → a < 2 ^ 16 → sixteenth a ≡ alpha_power 16 ⊗ a
sixteenth_is = additive_same 16 sixteenth (λ a. alpha_power 16 ⊗ a) sixteenth_additive (product_additive_right (alpha_power 16)) sixteenth_tests

-- ---- the powers below it

abbrev pub shifted_by : ℕ → ℕ → ℕ
shifted_by m a = a * 2 ^ m % 2 ^ 16 ⊕ alpha_power 16 ⊗ (a / 2 ^ (16 - m))

shifted_additive : (m : ℕ) → IsAdditive (shifted_by m)
shifted_additive m =
    both_additive (λ a. a * 2 ^ m % 2 ^ 16) (λ a. alpha_power 16 ⊗ (a / 2 ^ (16 - m))) (shl_additive m)
    (after (λ a. alpha_power 16 ⊗ a) (λ a. a / 2 ^ (16 - m)) (product_additive_right (alpha_power 16)) (shr_additive (16 - m)))

all_tests : (n : ℕ) → n < 256 → shifted_by (n / 16) (2 ^ (n % 16)) ≡ alpha_power (n / 16) ⊗ 2 ^ (n % 16)
unfolding product power doubled
all_tests = same_values 256 (λ n. shifted_by (n / 16) (2 ^ (n % 16))) (λ n. alpha_power (n / 16) ⊗ 2 ^ (n % 16)) refl

shifted_tests : (m : ℕ) → m < 16 → (i : ℕ) → i < 16 → shifted_by m (2 ^ i) ≡ alpha_power m ⊗ 2 ^ i
shifted_tests m l i k =
    let first : (m * 16 + i) / 16 ≡ m = omega arith in
    let second : (m * 16 + i) % 16 ≡ i = omega arith in
    ap₂ (λ m i. shifted_by m (2 ^ i)) (sym first) (sym second) ∙ all_tests (m * 16 + i) (omega arith) ∙ ap₂ (λ m i. alpha_power m ⊗ 2 ^ i) first second

pub shifted_is : (m a : ℕ) → m < 16 → a < 2 ^ 16 → shifted_by m a ≡ alpha_power m ⊗ a
shifted_is m a l h = additive_same 16 (shifted_by m) (λ a. alpha_power m ⊗ a) (shifted_additive m) (product_additive_right (alpha_power m)) (shifted_tests m l) a h

-- ---- lists of lanes

abbrev shr_lanes : ℕ → ℕ → List ℕ → List ℕ
shr_lanes n k x = zip2 (λ a b. a / 2 ^ b) x (replicate n k)

abbrev shl_lanes : ℕ → ℕ → List ℕ → List ℕ
shl_lanes n k x = zip2 (λ a b. a * 2 ^ b % 2 ^ 16) x (replicate n k)

abbrev over_lanes : ℕ → List ℕ → List ℕ
over_lanes n x = zip2 bit_xor (zip2 bit_xor (shr_lanes n 4 x) (shr_lanes n 13 x)) (shr_lanes n 15 x)

abbrev whole_lanes : ℕ → List ℕ → List ℕ
whole_lanes n x = zip2 bit_xor (zip2 bit_xor (zip2 bit_xor x (over_lanes n x)) (shr_lanes n 4 (over_lanes n x))) (shr_lanes n 8 (over_lanes n x))

abbrev folded_lanes : ℕ → List ℕ → List ℕ
folded_lanes n x = zip2 bit_xor (zip2 bit_xor (zip2 bit_xor x (shl_lanes n 1 x)) (shl_lanes n 3 x)) (shl_lanes n 12 x)

pub lanes_sixteenth : (n : ℕ) (x : List ℕ) → length x ≡ n → Each1 (λ a. a < 2 ^ 16) x → folded_lanes n (whole_lanes n x) ≡ map (λ a. alpha_power 16 ⊗ a) x
lanes_sixteenth n [] long words = refl
lanes_sixteenth zero (a ∷ x) long words = absurd (omega arith)
lanes_sixteenth (suc n) (a ∷ x) long words = ap₂ (λ a x. a ∷ x) (sixteenth_is a words.0) (lanes_sixteenth n x (omega arith) words.1)

pub lanes_shifted : (n m : ℕ) (x y : List ℕ) → m < 16 → length x ≡ n → Each1 (λ a. a < 2 ^ 16) x → y ≡ map (λ a. alpha_power 16 ⊗ a) (shr_lanes n (16 - m) x)
    → zip2 bit_xor (shl_lanes n m x) y ≡ map (λ a. alpha_power m ⊗ a) x
lanes_shifted n m x y l long words is = ap (λ y. zip2 bit_xor (shl_lanes n m x) y) is ∙ each n x long words
  where
    each : (n : ℕ) (x : List ℕ) → length x ≡ n → Each1 (λ a. a < 2 ^ 16) x → zip2 bit_xor (shl_lanes n m x) (map (λ a. alpha_power 16 ⊗ a) (shr_lanes n (16 - m) x)) ≡ map (λ a. alpha_power m ⊗ a) x
    each n [] long words = refl
    each zero (a ∷ x) long words = absurd (omega arith)
    each (suc n) (a ∷ x) long words = ap₂ (λ a x. a ∷ x) (shifted_is m a l words.0) (each n x (omega arith) words.1)

pub lanes_same : (m : ℕ) (x : List ℕ) → m ≡ 0 → Each1 (λ a. a < 2 ^ 16) x → x ≡ map (λ a. alpha_power m ⊗ a) x
lanes_same m [] none words = refl
lanes_same m (a ∷ x) none words =
    ap₂ (λ a x. a ∷ x) (sym (ap (λ m. alpha_power m ⊗ a) none ∙ ap (λ y. y ⊗ a) (power-zero 2) ∙ one-product a words.0)) (lanes_same m x none words.1)

-- a power and the 16th
pub lanes_twice : (m k : ℕ) (x y z : List ℕ) → m ≡ k + 16 → Each1 (λ a. a < 2 ^ 16) x → y ≡ map (λ a. alpha_power 16 ⊗ a) x → z ≡ map (λ a. alpha_power k ⊗ a) y
    → z ≡ map (λ a. alpha_power m ⊗ a) x
lanes_twice m k x y z sum words one two = two ∙ ap (λ y. map (λ a. alpha_power k ⊗ a) y) one ∙ each x words
  where
    each : (x : List ℕ) → Each1 (λ a. a < 2 ^ 16) x → map (λ a. alpha_power k ⊗ a) (map (λ a. alpha_power 16 ⊗ a) x) ≡ map (λ a. alpha_power m ⊗ a) x
    each [] words = refl
    each (a ∷ x) words =
        ap₂ (λ a x. a ∷ x)
        (sym (product_assoc (alpha_power k) (alpha_power 16) a (power-lt 2 k (omega arith)) (power-lt 2 16 (omega arith)) words.0)
        ∙ ap (λ y. y ⊗ a) (sym (power-add 2 k 16 (omega arith)) ∙ ap alpha_power (sym sum)))
        (each x words.1)

-- what products hold are words
pub lanes_words : (k : ℕ) (x : List ℕ) → Each1 (λ a. a < 2 ^ 16) (map (λ a. alpha_power k ⊗ a) x)
lanes_words k [] = tt
lanes_words k (a ∷ x) = (product-lt (alpha_power k) a (power-lt 2 k (omega arith)), lanes_words k x)

-- ---- words

pub word_same : (m a : ℕ) → m ≡ 0 → a < 2 ^ 16 → a ≡ alpha_power m ⊗ a
word_same m a none h = sym (ap (λ m. alpha_power m ⊗ a) none ∙ ap (λ y. y ⊗ a) (power-zero 2) ∙ one-product a h)

pub word_twice : (m k a b d : ℕ) → m ≡ k + 16 → a < 2 ^ 16 → b ≡ alpha_power 16 ⊗ a → d ≡ alpha_power k ⊗ b → d ≡ alpha_power m ⊗ a
word_twice m k a b d sum h one two =
    two ∙ ap (λ b. alpha_power k ⊗ b) one
    ∙ sym (product_assoc (alpha_power k) (alpha_power 16) a (power-lt 2 k (omega arith)) (power-lt 2 16 (omega arith)) h)
    ∙ ap (λ y. y ⊗ a) (sym (power-add 2 k 16 (omega arith)) ∙ ap alpha_power (sym sum))
