-- Laws of entries that are read into a buffer.
use Rattle.std.proofs.Common.{◌≡◌, ◌∙◌, ℕ, ◌≤◌, min, List, [], length, take, Option, None, Some, Bool, true, false, refl, sym, ap}
use Rattle.std.specs.Prelude.{unwrap_or, ◌++◌}
use Rattle.std.proofs.Math.Seq.{take-append_seam}
use Rattle.parity_store.proofs.FindingLaws.{Front, some_and}
use Rattle.parity_store.specs.Reading.{after_checks, body_refusal, head_refusal, most_bytes}
use Rattle.parity_store.specs.declared.reading.RecordKind.{RecordKind}
use Rattle.parity_store.proofs.ReadingLaws.{short_record, whole_front}
use Rattle.store_upkeep.specs.Entries.{state_of_bytes, state_of_reading}
use Rattle.store_upkeep.specs.Looking.{IsCopied, IsReadInto, is_good}

-- the head of a good entry isn't refused
good_head : (store name bytes : List ℕ) (head body : Option RecordKind) → is_good (state_of_reading store name (after_checks head body bytes)) ≡ true → head ≡ None
good_head store name bytes None body good = refl
good_head store name bytes (Some kind) body good = let no : false ≡ true = good in cc

-- a good entry isn't longer than what is read of a file
pub good_is_short : (store name bytes : List ℕ) → is_good (state_of_bytes store name bytes) ≡ true → length bytes ≤ most_bytes
unfolding state_of_bytes
good_is_short store name bytes good = short_record (length bytes) bytes (good_head store name bytes (head_refusal (length bytes) bytes) (body_refusal bytes) good)

-- a name without a file is no good entry's
pub empty_is_bad : (store name : List ℕ) → is_good (state_of_bytes store name []) ≡ false
unfolding state_of_bytes
empty_is_bad store name = refl

pub no_file : (store name buffer : List ℕ) (file : Option (List ℕ)) → IsReadInto buffer file None → IsCopied (state_of_bytes store name (unwrap_or file [])) (unwrap_or file []) buffer None
no_file store name buffer file none = rw none (empty_is_bad store name)

module _ (store name buffer : List ℕ) (size count : ℕ) (good : Bool) (counted : count ≡ min size most_bytes) where
  abbrev pub Tells : Type 0
  Tells = (bytes : List ℕ) → length bytes ≡ size → take count buffer ≡ take most_bytes bytes → good ≡ is_good (state_of_bytes store name bytes)

  pub is_copied : (file : Option (List ℕ)) → IsReadInto buffer file (Some size) → Tells → good ≡ true → IsCopied (state_of_bytes store name (unwrap_or file [])) (unwrap_or file []) buffer (Some count)
  is_copied None read tells is = absurd read
  is_copied (Some bytes) read tells is =
      let first : take count buffer ≡ take most_bytes bytes = ap (λ n. take n buffer) counted ∙ read.1 in
      let state : is_good (state_of_bytes store name bytes) ≡ true = sym (tells bytes read.0 first) ∙ is in
      (state, whole_front bytes (take count buffer) (good_is_short store name bytes state) first)

  pub not_copied : (file : Option (List ℕ)) → IsReadInto buffer file (Some size) → Tells → good ≡ false → IsCopied (state_of_bytes store name (unwrap_or file [])) (unwrap_or file []) buffer None
  not_copied None read tells is = absurd read
  not_copied (Some bytes) read tells is = sym (tells bytes read.0 (ap (λ n. take n buffer) counted ∙ read.1)) ∙ is

-- the part of the buffer that was filled
pub read_into : (buffer rest : List ℕ) (size count : ℕ) (file : Option (List ℕ)) → count ≡ min size most_bytes → length buffer ≡ count → Front file size buffer → IsReadInto (buffer ++ rest) file (Some size)
read_into buffer rest size count file counted filled front =
    some_and file size buffer (λ bytes. (length bytes ≡ size) × (take (min size most_bytes) (buffer ++ rest) ≡ take most_bytes bytes)) front
    (λ bytes all first. (all, ap (λ n. take n (buffer ++ rest)) (sym counted ∙ sym filled) ∙ take-append_seam buffer rest ∙ first))
