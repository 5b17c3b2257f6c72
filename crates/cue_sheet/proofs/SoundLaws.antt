-- What holds of a sheet before a line holds after it.
use Rattle.std.proofs.Common.{◌≡◌, ℕ, zero, suc, ◌+◌, ◌-◌, ◌*◌, ◌<◌, ◌≤◌, List, [], ◌∷◌, ◌++◌, length, Bool, true, false, cond, Option, None, Some, Result, Ok, Err, ap, inl, inr, refl, sym, subst, arith, length-append}
use Rattle.std.specs.Prelude.{◌==◌, ◌&&◌, not, IfSome, IfOk, unwrap_or}
use Rattle.std.proofs.lemmas.Bool.Decides.{nat_tests}
use Rattle.std.proofs.lemmas.Bool.{eqb-true, ltb-true, leb-true}
use Rattle.std.proofs.lemmas.List.Elements.{All-push}
use Rattle.std.proofs.lemmas.List.Quantifiers.{all_pairs_push}
use Rattle.cue_sheet.specs.declared.command.Command.{Command}
use Rattle.cue_sheet.specs.declared.command.Command.TheVariants.{Unread, File, Track, Index, Pregap, Postgap}
use Rattle.cue_sheet.specs.declared.fail.CueKind.{CueKind}
use Rattle.cue_sheet.specs.declared.fail.CueKind.TheVariants.{NoIndex01, NoTracks}
use Rattle.cue_sheet.specs.Lines.{lines_of, without_mark}
use Rattle.cue_sheet.specs.declared.sheet.CueTrack.{CueTrack}
use Rattle.cue_sheet.specs.Parts.{number_under, time_sectors, time_of}
use Rattle.cue_sheet.specs.Sheet.{IsTime, IsPlaced, IsSheet}
use Rattle.cue_sheet.specs.Reading.{State, Sheet, RefusedLine, after_line, has_track, is_complete, lines_reading, nothing_read, sheet_end, sheet_reading, line_check, part, follows, with_start, file_reading, track_reading, index_reading, pregap_reading, rest_reading, words_reading, line_reading}
use Rattle.cue_sheet.specs.Progress.{IsCounted, IsSound}

-- ---- what stands behind checks

abbrev KeepsSound : Result State CueKind → Type 0
KeepsSound read = IfOk read IsSound

behind_check : (holds : Bool) (kind : CueKind) (next : Result State CueKind) → (holds ≡ true → KeepsSound next) → KeepsSound (line_check holds kind next)
unfolding line_check
behind_check true kind next sound = sound refl
behind_check false kind next sound = tt

behind_part : {A : Type 0} (found : Option A) (kind : CueKind) (next : A → Result State CueKind) → ((a : A) → found ≡ Some a → KeepsSound (next a)) → KeepsSound (part found kind next)
unfolding part
behind_part None kind next sound = tt
behind_part (Some a) kind next sound = sound a refl

number_in_range : (most limit : ℕ) (word : List ℕ) (number : ℕ) → number_under most limit word ≡ Some number → number < limit
unfolding number_under
number_in_range most limit word number e = grind (arith, nat_tests)

number_below : (most limit : ℕ) (word : List ℕ) → IfSome (number_under most limit word) (λ n. n < limit)
number_below most limit word = by (number_under most limit word) refl
  where
    by : (found : Option ℕ) → number_under most limit word ≡ found → IfSome found (λ n. n < limit)
    by None e = tt
    by (Some n) e = number_in_range most limit word n e

sectors_in_range : (m s f : Option ℕ) (time : ℕ) → IfSome m (λ n. n < 1000) → IfSome s (λ n. n < 60) → IfSome f (λ n. n < 75) → time_sectors m s f ≡ Some time → IsTime time
sectors_in_range None s f time a b c e = cc
sectors_in_range (Some m) None f time a b c e = cc
sectors_in_range (Some m) (Some s) None time a b c e = cc
sectors_in_range (Some m) (Some s) (Some f) time a b c e =
    let same : (m * 60 + s) * 75 + f ≡ time = cc in
    omega arith

time_in_range : (text : List ℕ) (time : ℕ) → time_of text ≡ Some time → IsTime time
unfolding time_of
time_in_range text time e = sectors_in_range _ _ _ time (number_below 3 1000 _) (number_below 2 60 _) (number_below 2 75 _) e

-- ---- the commands

-- files only grow, and the tracks stay in them
more_files : (state : State) (name : List ℕ) → IsSound state → length state.files < 100 → IsSound record state { files = state.files ++ name ∷ []; time = 0 }
more_files state name sound few =
    let grown : length (state.files ++ name ∷ []) ≡ length state.files + 1 = length-append state.files (name ∷ []) in
    record {
      few_files = omega arith;
      file_first = λ some. omega arith;
      few = sound.few;
      labelled = sound.labelled;
      counted = sound.counted;
      placed = λ k d inside. record { inside = omega (arith, (sound.placed k d inside).inside); timed = (sound.placed k d inside).timed };
      in_order = sound.in_order;
      timed = omega arith;
      pregap_timed = sound.pregap_timed;
    }

file_sound : (state : State) (text : List ℕ) → IsSound state → KeepsSound (file_reading state text)
unfolding file_reading
file_sound state text sound =
    behind_part _ _ _ (λ named is_named.
    behind_check _ _ _ (λ is_text.
    behind_check _ _ _ (λ is_wave.
    behind_check _ _ _ (λ is_few. more_files state named.name sound (ltb-true _ _ is_few)))))

-- a track more, of which no INDEX was read
more_tracks : (state : State) (number : ℕ) → IsSound state → 0 < length state.files → number < 100 → number ≡ state.number + 1 → length state.tracks ≡ state.number
    → IsSound record state { number = number; index = None }
more_tracks state number sound some few next complete = record {
  few_files = sound.few_files;
  file_first = λ _. some;
  few = omega arith;
  labelled = tt;
  counted = inl (omega arith);
  placed = sound.placed;
  in_order = sound.in_order;
  timed = sound.timed;
  pregap_timed = sound.pregap_timed;
}

not_zero : (n : ℕ) → not (n == 0) ≡ true → 0 < n
not_zero n e = grind (arith, nat_tests)

track_sound : (state : State) (text : List ℕ) → IsSound state → KeepsSound (track_reading state text)
unfolding track_reading
track_sound state text sound =
    behind_check _ _ _ (λ has.
    behind_part _ _ _ (λ number is_number.
    behind_check _ _ _ (λ is_audio.
    behind_check _ _ _ (λ is_next.
    behind_check _ _ _ (λ complete. more_tracks state number sound (not_zero _ has) (number_in_range 2 100 _ number is_number) (eqb-true _ _ is_next) (eqb-true _ _ complete))))))

-- an index that follows leaves the tracks counted
one_begins : (before : Option ℕ) (number tracks : ℕ) → follows before 1 ≡ true → 0 < number → IsCounted before number tracks → number ≡ tracks + 1
one_begins None number tracks e some (inl counted) = counted
one_begins None number tracks e some (inr none) = absurd (omega arith)
one_begins (Some zero) number tracks e some counted = counted
one_begins (Some (suc before)) number tracks e some counted = absurd (omega (arith, eqb-true _ _ e))

zero_begins : (before : Option ℕ) (number tracks : ℕ) → follows before 0 ≡ true → 0 < number → IsCounted before number tracks → number ≡ tracks + 1
zero_begins None number tracks e some (inl counted) = counted
zero_begins None number tracks e some (inr none) = absurd (omega arith)
zero_begins (Some before) number tracks e some counted = absurd (omega (arith, eqb-true _ _ e))

later_stays : (before : Option ℕ) (index number tracks : ℕ) → follows before (suc (suc index)) ≡ true → 0 < number → IsCounted before number tracks → number ≡ tracks
later_stays None index number tracks e some counted = absurd (omega (arith, leb-true _ _ e))
later_stays (Some zero) index number tracks e some counted = absurd (omega (arith, eqb-true _ _ e))
later_stays (Some (suc before)) index number tracks e some counted = counted

other_start : (state : State) (index time : ℕ) → 1 < index → with_start state index time ≡ state.tracks
other_start state index time other = by (index == 1) refl
  where
    by : (one : Bool) → (index == 1) ≡ one → with_start state index time ≡ state.tracks
    by true e = absurd (omega (arith, eqb-true _ _ e))
    by false e = rw e refl

indexed : (state : State) (index time : ℕ) → IsSound state → 0 < state.number → index < 100 → follows state.index index ≡ true → IsTime time
    → IsSound record state { index = Some index; time = time; tracks = with_start state index time }
indexed state zero time sound some few e timed = record {
  few_files = sound.few_files;
  file_first = sound.file_first;
  few = sound.few;
  labelled = omega arith;
  counted = zero_begins state.index state.number (length state.tracks) e some sound.counted;
  placed = sound.placed;
  in_order = sound.in_order;
  timed = timed;
  pregap_timed = sound.pregap_timed;
}
indexed state (suc zero) time sound some few e timed =
    let last : CueTrack = record { file = length state.files - 1; index01 = time } in
    let grown : length (state.tracks ++ last ∷ []) ≡ length state.tracks + 1 = length-append state.tracks (last ∷ []) in
    let files : 0 < length state.files = sound.file_first some in
    record {
      few_files = sound.few_files;
      file_first = sound.file_first;
      few = sound.few;
      labelled = omega arith;
      counted = omega (arith, one_begins state.index state.number (length state.tracks) e some sound.counted);
      placed = All-push (IsPlaced (length state.files)) state.tracks last sound.placed record { inside = omega arith; timed = timed };
      in_order = all_pairs_push (λ earlier later. earlier.file ≤ later.file) state.tracks last sound.in_order (λ k d inside. omega (arith, (sound.placed k d inside).inside));
      timed = timed;
      pregap_timed = sound.pregap_timed;
    }
indexed state (suc (suc index)) time sound some few e timed =
    let other : with_start state (suc (suc index)) time ≡ state.tracks = other_start state (suc (suc index)) time (omega arith) in
    let kept : IsSound record state { index = Some (suc (suc index)); time = time } = record {
      few_files = sound.few_files;
      file_first = sound.file_first;
      few = sound.few;
      labelled = omega arith;
      counted = later_stays state.index index state.number (length state.tracks) e some sound.counted;
      placed = sound.placed;
      in_order = sound.in_order;
      timed = timed;
      pregap_timed = sound.pregap_timed;
    } in
    subst (λ (tracks : List CueTrack). IsSound record state { index = Some (suc (suc index)); time = time; tracks = tracks }) (sym other) kept

both_true : (a b : Bool) → (a && b) ≡ true → a ≡ true
both_true true b e = refl
both_true false b e = cc

index_sound : (state : State) (text : List ℕ) → IsSound state → KeepsSound (index_reading state text)
unfolding index_reading
index_sound state text sound =
    behind_check _ _ _ (λ has.
    behind_part _ _ _ (λ number is_number.
    behind_part _ _ _ (λ time is_time.
    behind_check _ _ _ (λ in_order. indexed state number time sound (not_zero _ has) (number_in_range 2 100 _ number is_number) (both_true _ _ in_order) (time_in_range _ time is_time)))))

pregap_sound : (state : State) (text : List ℕ) → IsSound state → KeepsSound (pregap_reading state text)
unfolding pregap_reading
pregap_sound state text sound =
    behind_check _ _ _ (λ has.
    behind_check _ _ _ (λ may.
    behind_part _ _ _ (λ time is_time. record {
      few_files = sound.few_files;
      file_first = sound.file_first;
      few = sound.few;
      labelled = sound.labelled;
      counted = sound.counted;
      placed = sound.placed;
      in_order = sound.in_order;
      timed = sound.timed;
      pregap_timed = time_in_range _ time is_time;
    })))

command_sound : (command : Command) (state : State) (text : List ℕ) → IsSound state → KeepsSound (rest_reading command state text)
command_sound Unread state text sound = sound
command_sound File state text sound = file_sound state text sound
command_sound Track state text sound = track_sound state text sound
command_sound Index state text sound = index_sound state text sound
command_sound Pregap state text sound = pregap_sound state text sound
command_sound Postgap state text sound = tt

behind_choice : (first : Bool) (one other : Result State CueKind) → KeepsSound one → KeepsSound other → KeepsSound (cond first one other)
behind_choice true one other a b = a
behind_choice false one other a b = b

words_sound : (state : State) (text : List ℕ) → IsSound state → KeepsSound (words_reading state text)
unfolding words_reading
words_sound state text sound = behind_choice (length text == 0) _ _ sound (behind_part _ _ _ (λ command is_command. command_sound command state _ sound))

-- a line that is read keeps what holds
pub line_sound : (state next : State) (line : List ℕ) → IsSound state → line_reading state line ≡ Ok next → IsSound next
unfolding line_reading
line_sound state next line sound e = subst KeepsSound e (words_sound state _ sound)

-- ---- the whole

nothing_sound : IsSound nothing_read
nothing_sound = record {
  few_files = omega arith;
  file_first = λ some. absurd (omega arith);
  few = omega arith;
  labelled = tt;
  counted = inr (refl, refl);
  placed = λ k d below. absurd (omega arith);
  in_order = λ i j d low below. absurd (omega arith);
  timed = omega arith;
  pregap_timed = tt;
}

checked : {A : Type 0} (holds : Bool) (kind : CueKind) (next : Result A CueKind) (read : A) → line_check holds kind next ≡ Ok read → (holds ≡ true) × (next ≡ Ok read)
unfolding line_check
checked true kind next read e = (refl, e)
checked false kind next read e = cc

gap_timed : (gap : Option ℕ) → IfSome gap IsTime → IsTime (unwrap_or gap 0)
gap_timed None timed = omega arith
gap_timed (Some gap) timed = timed

end_valid : (state : State) (sheet : Sheet) → IsSound state → sheet_end state ≡ Ok sheet → IsSheet sheet.files sheet.tracks sheet.pregap
unfolding sheet_end
end_valid state sheet sound e =
    let first = checked (has_track state) NoTracks _ sheet e in
    let second = checked (is_complete state) NoIndex01 _ sheet first.1 in
    let same : record { files = state.files; tracks = state.tracks; pregap = unwrap_or state.pregap 0 } ≡ sheet = cc in
    let some : 0 < state.number = (let test = first.0 in grind (arith, nat_tests)) in
    let all : length state.tracks ≡ state.number = eqb-true _ _ second.0 in
    subst (λ (s : Sheet). IsSheet s.files s.tracks s.pregap) same record {
      some_files = sound.file_first some;
      few_files = sound.few_files;
      some_tracks = omega arith;
      few_tracks = omega (arith, sound.few);
      placed = sound.placed;
      in_order = sound.in_order;
      timed = gap_timed state.pregap sound.pregap_timed;
    }

ended : (read : Result Sheet CueKind) (sheet : Sheet) → after_line 0 read Ok ≡ Ok sheet → read ≡ Ok sheet
ended (Ok found) sheet e = let same : found ≡ sheet = cc in ap Ok same
ended (Err kind) sheet e = cc

stepped : (line : ℕ) (read : Result State CueKind) (next : State → Result Sheet RefusedLine) (sheet : Sheet) → after_line line read next ≡ Ok sheet → (state : State) × (read ≡ Ok state) × (next state ≡ Ok sheet)
stepped line (Ok state) next sheet e = (state, refl, e)
stepped line (Err kind) next sheet e = cc

lines_valid : (line : ℕ) (state : State) (lines : List (List ℕ)) (sheet : Sheet) → IsSound state → lines_reading line state lines ≡ Ok sheet → IsSheet sheet.files sheet.tracks sheet.pregap
unfolding lines_reading
lines_valid line state [] sheet sound e = end_valid state sheet sound (ended (sheet_end state) sheet e)
lines_valid line state (first ∷ others) sheet sound e =
    let step = stepped line (line_reading state first) (λ next. lines_reading (line + 1) next others) sheet e in
    lines_valid (line + 1) step.0 others sheet (line_sound state step.0 first sound step.1) step.2

-- what a text is read as is a sheet
pub sheet_valid : (text : List ℕ) (sheet : Sheet) → sheet_reading text ≡ Ok sheet → IsSheet sheet.files sheet.tracks sheet.pregap
unfolding sheet_reading
sheet_valid text sheet e = lines_valid 1 nothing_read (lines_of (without_mark text)) sheet nothing_sound e
