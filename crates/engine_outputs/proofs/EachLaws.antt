-- The image and the sheet that are written next.
use Rattle.std.proofs.Common.{◌≡◌, ◌≢◌, ◌∙◌, ℕ, ◌+◌, ◌<◌, ◌≤◌, List, [], length, map, take, slice_get, get_or, None, Some, refl, sym, ap, ap₂, subst, arith}
use Rattle.std.specs.Prelude.{All, AllPairs, Contains, sum_by}
use Rattle.std.specs.FinMap.{get}
use Rattle.std.proofs.lemmas.List.{get_or-map, get_or_read, length-map}
use Rattle.std.proofs.lemmas.List.Sums.{sum_by-take-le, sum_by_more}
use Rattle.rip_outside.specs.Files.{Files}
use Rattle.rip_outside.specs.Outputs.{Output, after_outputs, part_of}
use Rattle.wav_frames.specs.Wav.{wav_bytes}
use Rattle.image_mender.specs.declared.image.Part.{Part}
use Rattle.image_mender.specs.Joined.{AreInFiles, joined_words, word_count}
use Rattle.engine_outputs.specs.Writing.{image_outputs, words_of_images}
use Rattle.engine_outputs.proofs.OneMoreLaws.{Fits}
use Rattle.engine_outputs.proofs.FollowLaws.{AreFresh, named_apart, named_at, named_fresh, named_last, named_length, next_free, words_follow}

module _ (outs : List (List ℕ)) (images : List (List Part)) (sheet : List ℕ) (many : length outs ≡ length images + 1) where
  words_many : (files : Files) → length (words_of_images images files) ≡ length images
  words_many files = length-map images (λ parts. joined_words parts files)

  pub outputs_many : (files : Files) → length (image_outputs outs images sheet files) ≡ length images + 1
  outputs_many files = named_length outs (words_of_images images files) sheet (let same = words_many files in omega arith) ∙ (let same = words_many files in omega arith)

  pub image_here : (i : ℕ) (files : Files) (image : List Part) (to : List ℕ) → i < length images → image ≡ get_or images i image → to ≡ get_or outs i to
      → slice_get (image_outputs outs images sheet files) i ≡ Some record { name = to; bytes = wav_bytes (joined_words image files) }
  image_here i files image to below is named =
      let same = words_many files in
      let words : get_or (words_of_images images files) i [] ≡ joined_words image files =
      get_or-map (λ parts. joined_words parts files) images i [] [] below ∙ ap (λ parts. joined_words parts files) (sym (get_or_read images i image below is [])) in
      let name : get_or outs i [] ≡ to = sym (get_or_read outs i to (omega arith) named []) in
      let make : List ℕ → List ℕ → Output = λ n w. record { name = n; bytes = wav_bytes w } in
      named_at outs (words_of_images images files) sheet i (omega arith) (omega arith) ∙ ap₂ (λ n w. Some (make n w)) name words

  pub sheet_here : (files : Files) (to : List ℕ) → to ≡ get_or outs (length images) to → slice_get (image_outputs outs images sheet files) (length images) ≡ Some record { name = to; bytes = sheet }
  sheet_here files to named =
      let same = words_many files in
      let name : get_or outs (length images) [] ≡ to = sym (get_or_read outs (length images) to (omega arith) named []) in
      let make : List ℕ → Output = λ n. record { name = n; bytes = sheet } in
      ap (slice_get (image_outputs outs images sheet files)) (sym same) ∙ named_last outs (words_of_images images files) sheet (omega arith)
      ∙ ap (λ k. Some (make (get_or outs k []))) same ∙ ap (λ n. Some (make n)) name

  module _ (distinct : AllPairs (λ earlier later. later ≢ earlier) outs) where
    fresh : (files : Files) → All (λ out. get files out ≡ None) outs → AreFresh (image_outputs outs images sheet files) files
    fresh files free = named_fresh outs (words_of_images images files) sheet files distinct free

    pub image_free : (i : ℕ) (files : Files) (image : List Part) (to : List ℕ) → i < length images → image ≡ get_or images i image → to ≡ get_or outs i to → All (λ out. get files out ≡ None) outs
        → get (after_outputs (take i (image_outputs outs images sheet files)) files) to ≡ None
    image_free i files image to below is named free =
        next_free (image_outputs outs images sheet files) i record { name = to; bytes = wav_bytes (joined_words image files) } files (fresh files free) (image_here i files image to below is named)

    pub sheet_free : (files : Files) (to : List ℕ) → to ≡ get_or outs (length images) to → All (λ out. get files out ≡ None) outs
        → get (after_outputs (take (length images) (image_outputs outs images sheet files)) files) to ≡ None
    sheet_free files to named free =
        next_free (image_outputs outs images sheet files) (length images) record { name = to; bytes = sheet } files (fresh files free) (sheet_here files to named)

    apart_each : (parts : List (List ℕ)) (image : List Part) → parts ≡ map part_of outs → All (λ (p : Part). Contains parts p.name → ⊥) image → All (λ name. All (λ (p : Part). p.name ≢ part_of name) image) outs
    apart_each parts image are apart k d below j e inside same =
        let p : Part = get_or image j e in
        let size : length parts ≡ length outs = ap length are ∙ length-map outs part_of in
        let there : get_or parts k p.name ≡ p.name = ap (λ xs. get_or xs k p.name) are ∙ get_or-map part_of outs k d p.name below ∙ sym same in
        apart j e inside (k, omega arith, there)

    pub image_follow : (parts : List (List ℕ)) (i : ℕ) (files : Files) (image : List Part) → parts ≡ map part_of outs → All (λ (p : Part). Contains parts p.name → ⊥) image → All (λ out. get files out ≡ None) outs → AreInFiles image files
        → (joined_words image (after_outputs (take i (image_outputs outs images sheet files)) files) ≡ joined_words image files) × AreInFiles image (after_outputs (take i (image_outputs outs images sheet files)) files)
    image_follow parts i files image are apart free inside =
        words_follow (image_outputs outs images sheet files) i image files (fresh files free) (named_apart outs (words_of_images images files) sheet image (apart_each parts image are apart)) inside

-- ---- as an image or the sheet is taken from its list

pub inside_at : (images : List (List Part)) (i : ℕ) (image : List Part) (files : Files) → i < length images → image ≡ get_or images i image → All (λ image. AreInFiles image files) images → AreInFiles image files
inside_at images i image files below is all = subst (λ (parts : List Part). AreInFiles parts files) (sym is) (all i image below)

pub apart_at : (parts : List (List ℕ)) (images : List (List Part)) (i : ℕ) (image : List Part) → i < length images → image ≡ get_or images i image
    → All (λ (image : List Part). All (λ (p : Part). Contains parts p.name → ⊥) image) images → All (λ (p : Part). Contains parts p.name → ⊥) image
apart_at parts images i image below is all = subst (λ (image : List Part). All (λ (p : Part). Contains parts p.name → ⊥) image) (sym is) (all i image below)

pub part_at : (outs parts : List (List ℕ)) (i : ℕ) (part item to : List ℕ) → parts ≡ map part_of outs → i < length outs → part ≡ item → item ≡ get_or parts i item → to ≡ get_or outs i to → part ≡ part_of to
part_at outs parts i part item to are below same is named =
    let size : length parts ≡ length outs = ap length are ∙ length-map outs part_of in
    same ∙ get_or_read parts i item (omega arith) is [] ∙ ap (λ xs. get_or xs i []) are ∙ get_or-map part_of outs i to [] below ∙ ap part_of (sym named)

module _ (outs : List (List ℕ)) (images : List (List Part)) (sheet : List ℕ) (many : length outs ≡ length images + 1) (distinct : AllPairs (λ earlier later. later ≢ earlier) outs) (parts : List (List ℕ)) (text : List ℕ) where
  pub image_fits : (i : ℕ) (part to : List ℕ) (image : List Part) (files : Files) (part_is : part ≡ part_of to) → i < length images → image ≡ get_or images i image → to ≡ get_or outs i to → parts ≡ map part_of outs
      → All (λ (image : List Part). All (λ (p : Part). Contains parts p.name → ⊥) image) images → All (λ out. get files out ≡ None) outs → All (λ image. AreInFiles image files) images
      → Fits (image_outputs outs images sheet) text i part to (λ files. wav_bytes (joined_words image files)) (λ files. wav_bytes (joined_words image files)) part_is files
  image_fits i part to image files part_is below is named are apart free inside = record {
    here = image_here outs images sheet many i files image to below is named;
    made = ap wav_bytes (image_follow outs images sheet many distinct parts i files image are (apart_at parts images i image below is apart) free (inside_at images i image files below is inside)).0;
  }

  pub sheet_fits : (part to : List ℕ) (files : Files) (part_is : part ≡ part_of to) → to ≡ get_or outs (length images) to
      → Fits (image_outputs outs images sheet) text (length images) part to (λ _. sheet) (λ _. sheet) part_is files
  sheet_fits part to files part_is named = record { here = sheet_here outs images sheet many files to named; made = refl }

-- the words of the images so far, and of the next one
pub image_next : (images : List (List Part)) (i : ℕ) (image : List Part) → i < length images → image ≡ get_or images i image → sum_by word_count (take (i + 1) images) ≡ sum_by word_count (take i images) + word_count image
image_next images i image below is = sum_by_more word_count images i image below ∙ ap (λ parts. sum_by word_count (take i images) + word_count parts) (sym is)

pub image_more : (images : List (List Part)) (i : ℕ) (image : List Part) → i < length images → image ≡ get_or images i image → sum_by word_count (take i images) + word_count image ≤ sum_by word_count images
image_more images i image below is = omega (arith, image_next images i image below is, sum_by-take-le word_count images (i + 1))
