-- Laws of a step: the parity at the start a stride later from that at a start, and back.
use Rattle.std.proofs.Common.{◌≡◌, ℕ, suc, ◌+◌, ◌-◌, ◌*◌, ◌^◌, ◌<◌, ◌≤◌, List, length, get_or, arith, refl, sym, ap, ◌∙◌, add-one, mul_comm, ◌≢◌, set, below_more, get_or-set_other, get_or-set_same}
use Rattle.std.proofs.lemmas.Nat.{xor_lt}
use Rattle.gf16_field.specs.Xor.{◌⊕◌}
use Rattle.gf16_field.specs.Gf16.{◌⊗◌, alpha_power, power, product, doubled}
use Rattle.gf16_field.specs.Column.{column_sum}
use Rattle.gf16_field.proofs.XorLaws.{xor_cancel}
use Rattle.gf16_field.proofs.FieldLaws.{one-product, product-lt, product_assoc}
use Rattle.gf16_field.proofs.PowerLaws.{power-lt, power-suc}
use Rattle.gf16_field.proofs.PowerRules.{power_back, power_power}
use Rattle.gf16_field.proofs.ColumnLaws.{alpha-lt, column_sum-next, column_sum-same}
use Rattle.column_map.specs.Columns.{stride}
use Rattle.column_map.specs.Image.{AreWords}
use Rattle.syndrome_stream.specs.Parity.{column_words, parity_at}
use Rattle.syndrome_stream.proofs.RowLaws.{AreWords-get_or}
use Rattle.syndrome_stream.proofs.ParityLaws.{column_sum-lt, get_or-parity_at, parity_at-from}
use Rattle.offset_slide.specs.Steps.{ArePowersOf, beta}

-- one more power
pub power_next : (a n x y : ℕ) → x ≡ power a n → y ≡ a ⊗ x → y ≡ power a (n + 1)
power_next a n x y now next = rw add-one (next ∙ ap (λ z. a ⊗ z) now ∙ sym (power-suc a n))

-- β is the inverse of α
pub beta-alpha : beta ⊗ 2 ≡ 1
unfolding product doubled
beta-alpha = refl

-- what is multiplied by α^m is had back by β^m
pub beta_back : (m x : ℕ) → x < 2 ^ 16 → power beta m ⊗ (alpha_power m ⊗ x) ≡ x
beta_back m x l =
    let word : beta < 2 ^ 16 = omega arith in
    sym (product_assoc (power beta m) (alpha_power m) x (power-lt beta m word) (alpha-lt m) l)
    ∙ ap (λ z. z ⊗ x) (power_back beta 2 m word (omega arith) beta-alpha) ∙ one-product x l

-- ---- one syndrome

up_parts : (r s l f e r' s' l' f' e' : ℕ) → r ≡ r' → s ≡ s' → l ≡ l' → f ≡ f' → e ≡ e' → r ⊗ (s ⊕ l ⊗ f) ⊕ e ≡ r' ⊗ (s' ⊕ l' ⊗ f') ⊕ e'
up_parts r s l f e r' s' l' f' e' hr hs hl hf he = cc

down_parts : (b s l e f b' s' l' e' f' : ℕ) → b ≡ b' → s ≡ s' → l ≡ l' → e ≡ e' → f ≡ f' → b ⊗ (s ⊕ l) ⊕ e ⊗ f ≡ b' ⊗ (s' ⊕ l') ⊕ e' ⊗ f'
down_parts b s l e f b' s' l' e' f' hb hs hl he hf = cc

-- the words of the column at the start a stride later
next_words : (y : List ℕ) (a m c : ℕ) → column_sum m c (λ k. column_words y a (suc k)) ≡ column_sum m c (column_words y (a + stride))
next_words y a m c =
    column_sum-same m c (λ k. column_words y a (suc k)) (column_words y (a + stride))
    (λ k l. let here : a + suc k * stride ≡ a + stride + k * stride = omega arith in ap (λ i. get_or y i 0) here)

first_word : (y : List ℕ) (a : ℕ) → column_words y a 0 ≡ get_or y a 0
first_word y a = let here : a + 0 * stride ≡ a = omega arith in ap (λ i. get_or y i 0) here

-- a syndrome at the start a stride later
pub syndrome_up : (m c : ℕ) (y : List ℕ) (a : ℕ) → AreWords y → 1 ≤ c
    → alpha_power m ⊗ (column_sum m c (column_words y a) ⊕ get_or y a 0 ⊗ alpha_power (m * (c - 1))) ⊕ get_or y (a + c * stride) 0 ≡ column_sum m c (column_words y (a + stride))
syndrome_up m c y a words some =
    ap (λ w. alpha_power m ⊗ (column_sum m c (column_words y a) ⊕ w ⊗ alpha_power (m * (c - 1))) ⊕ get_or y (a + c * stride) 0) (sym (first_word y a))
    ∙ column_sum-next m c (column_words y a) (λ k. AreWords-get_or y (a + k * stride) words) (omega arith)
    ∙ next_words y a m c

-- a syndrome at the start a stride earlier
pub syndrome_down : (m c : ℕ) (y : List ℕ) (a : ℕ) → AreWords y → 1 ≤ c
    → power beta m ⊗ (column_sum m c (column_words y (a + stride)) ⊕ get_or y (a + c * stride) 0) ⊕ get_or y a 0 ⊗ alpha_power (m * (c - 1)) ≡ column_sum m c (column_words y a)
syndrome_down m c y a words some =
    let sum : ℕ = column_sum m c (column_words y a) in
    let top : ℕ = get_or y a 0 ⊗ alpha_power (m * (c - 1)) in
    let entered : ℕ = get_or y (a + c * stride) 0 in
    let small : sum ⊕ top < 2 ^ 16 =
    xor_lt 16 sum top (column_sum-lt m c (column_words y a) (λ k l. AreWords-get_or y (a + k * stride) words))
    (product-lt (get_or y a 0) (alpha_power (m * (c - 1))) (AreWords-get_or y a words)) in
    ap (λ x. power beta m ⊗ (x ⊕ entered) ⊕ top) (sym (syndrome_up m c y a words some))
    ∙ ap (λ x. power beta m ⊗ x ⊕ top) (xor_cancel (alpha_power m ⊗ (sum ⊕ top)) entered)
    ∙ ap (λ x. x ⊕ top) (beta_back m (sum ⊕ top) small)
    ∙ xor_cancel sum top

-- ---- a row

-- the weight of a column's first word
first_weight : (count c m : ℕ) (firsts : List ℕ) → ArePowersOf count (alpha_power (c - 1)) firsts → m < count → get_or firsts m 0 ≡ alpha_power (m * (c - 1))
first_weight count c m firsts first l = first.each m l ∙ power_power 2 (c - 1) m (omega arith) ∙ ap alpha_power (mul_comm (c - 1) m)

-- one more power
pub powers_more : (a n : ℕ) (powers : List ℕ) (x : ℕ) → n < length powers → x ≡ power a n → ((k : ℕ) → k < n → get_or powers k 0 ≡ power a k)
    → (k : ℕ) → k < n + 1 → get_or (set powers n x) k 0 ≡ power a k
powers_more a n powers x inside now done =
    below_more _ _
    (λ k l. let apart : k ≢ n = omega arith in get_or-set_other powers n k x 0 apart ∙ done k l)
    (get_or-set_same powers n x 0 inside ∙ now)

-- the row at the start a stride later
pub row_up : (count c : ℕ) (y : List ℕ) (a : ℕ) (regs row rises firsts : List ℕ) (left entered : ℕ) → 1 ≤ c → ArePowersOf count 2 rises → ArePowersOf count (alpha_power (c - 1)) firsts → AreWords y
    → regs ≡ parity_at count c y a → left ≡ get_or y a 0 → entered ≡ get_or y (a + c * stride) 0 → length row ≡ count
    → ((m : ℕ) → m < count → get_or row m 0 ≡ get_or rises m 0 ⊗ (get_or regs m 0 ⊕ left ⊗ get_or firsts m 0) ⊕ entered) → row ≡ parity_at count c y (a + stride)
row_up count c y a regs row rises firsts left entered some rise first words now leaves enters long stepped =
    parity_at-from count c y (a + stride) row long
    (λ m l. stepped m l
    ∙ up_parts (get_or rises m 0) (get_or regs m 0) left (get_or firsts m 0) entered (alpha_power m) (column_sum m c (column_words y a)) (get_or y a 0) (alpha_power (m * (c - 1))) (get_or y (a + c * stride) 0)
    (rise.each m l) (ap (λ row. get_or row m 0) now ∙ get_or-parity_at count c y a m 0 l) leaves (first_weight count c m firsts first l) enters
    ∙ syndrome_up m c y a words some)

-- the row at the start a stride earlier
pub row_down : (count c : ℕ) (y : List ℕ) (a : ℕ) (regs row falls firsts : List ℕ) (left entered : ℕ) → 1 ≤ c → ArePowersOf count beta falls → ArePowersOf count (alpha_power (c - 1)) firsts → AreWords y
    → regs ≡ parity_at count c y (a + stride) → left ≡ get_or y (a + c * stride) 0 → entered ≡ get_or y a 0 → length row ≡ count
    → ((m : ℕ) → m < count → get_or row m 0 ≡ get_or falls m 0 ⊗ (get_or regs m 0 ⊕ left) ⊕ entered ⊗ get_or firsts m 0) → row ≡ parity_at count c y a
row_down count c y a regs row falls firsts left entered some fall first words now leaves enters long stepped =
    parity_at-from count c y a row long
    (λ m l. stepped m l
    ∙ down_parts (get_or falls m 0) (get_or regs m 0) left entered (get_or firsts m 0) (power beta m) (column_sum m c (column_words y (a + stride))) (get_or y (a + c * stride) 0) (get_or y a 0) (alpha_power (m * (c - 1)))
    (fall.each m l) (ap (λ row. get_or row m 0) now ∙ get_or-parity_at count c y (a + stride) m 0 l) leaves enters (first_weight count c m firsts first l)
    ∙ syndrome_down m c y a words some)
