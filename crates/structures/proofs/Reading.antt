-- Reading marks from the front, each with the number of its unit, and parents from the back, each with the number of its node.
use Rattle.std.proofs.Common.{◌≡◌, ℕ, suc, ◌+◌, ◌<◌, ◌≤◌, true, false, List, [], ◌∷◌, ◌++◌, append-nil, length, get_or, drop, Some, None, Option, sym, ap, ◌∙◌, inl, inr, add-zero, append_assoc, arith, Bor}
use Rattle.std.proofs.lemmas.List.{drop-drop, get_or-drop, get_or_past, get_or-append-add, length-drop, length_push}
use Rattle.std.proofs.lemmas.Bool.{cases_eq}
use Rattle.std.specs.Iterator.Adapters.{take_source, take_count, enumerate_source, enumerate_count, rev_source, zip_first, zip_second, take_steps, enumerate_steps, enumerate_steps_back, rev_steps, zip_steps}
use Rattle.std.specs.Slice.Iter.{iter_rest, iter_steps, iter_steps_back}
use Rattle.std.specs.declared.iter.Enumerate.{Enumerate}
use Rattle.std.specs.declared.iter.Rev.{Rev}
use Rattle.std.specs.declared.iter.Take.{Take}
use Rattle.std.specs.declared.iter.Zip.{Zip}
use Rattle.std.specs.declared.slice.Iter.{Iter}
use Rattle.structures.specs.Drainage.{node_at}
use Rattle.structures.specs.Marks.{marked}
use Rattle.structures.proofs.Marked.{is_mark, byte_marks, byte_leaves, marked_by, unmarked_by, unmarked_from}
use Rattle.terms.specs.declared.numbers.NodeNo.{NodeNo}

-- What is left from place k on starts with the element at k.
front : {A : Type 0} (xs rest : List A) (k : ℕ) (x d : A) → drop k xs ≡ x ∷ rest →
    (k < length xs) × (get_or xs k d ≡ x) × (rest ≡ drop (k + 1) xs)
front xs rest k x d e = (
  omega (arith, length-drop k xs, ap length e),
  ap (λ j. get_or xs j d) (sym (add-zero k)) ∙ sym (get_or-drop k xs 0 d) ∙ ap (λ ys. get_or ys 0 d) e,
  sym (ap (drop 1) e) ∙ drop-drop 1 k xs,
)

-- The marks, each with its number, as many as there are units.
abbrev pub MarksReader : Type 0
MarksReader = Take (Enumerate (Iter ℕ))

abbrev pub position : MarksReader → ℕ
position it = enumerate_count (take_source it)

abbrev pub left : MarksReader → List ℕ
left it = iter_rest (enumerate_source (take_source it))

abbrev pub Reads : MarksReader → Option (ℕ × Bor ℕ) → MarksReader → Type 0
Reads = take_steps (enumerate_steps iter_steps)

-- How far a reading of the first n marks has come.
pub record Reading (n : ℕ) (bytes : List ℕ) (it : MarksReader) : Type 0 where
  pub rest : left it ≡ drop (position it) bytes
  pub limit : take_count it + position it ≡ n

pub read_none : (n : ℕ) (bytes : List ℕ) (it : MarksReader) → position it ≡ 0 → left it ≡ bytes → take_count it ≡ n →
    Reading n bytes it
read_none n bytes it first all limit = record {
  rest = all ∙ ap (λ k. drop k bytes) (sym first);
  limit = omega arith;
}

-- One turn reads the byte of unit i, and goes on behind it.
pub record Turn (n : ℕ) (bytes : List ℕ) (it next : MarksReader) (i byte : ℕ) : Type 0 where
  pub here : i ≡ position it
  pub after : i + 1 ≡ position next
  pub below : i < n
  pub marks : (byte ≡ 0 → ⊥) → marked n bytes i ≡ true
  pub leaves : byte ≡ 0 → marked n bytes i ≡ false
  pub onward : Reading n bytes next

pub turn : (n : ℕ) (bytes : List ℕ) (it next : MarksReader) (i : ℕ) (mark : Bor ℕ) → Reading n bytes it → Reads it (Some (i, mark)) next →
    Turn n bytes it next i mark.now
turn n bytes it next i mark r step =
    let at = front bytes (left next) i mark.now 0 (ap (λ k. drop k bytes) step.0.1 ∙ sym r.rest ∙ step.0.0) in
    let after : i + 1 ≡ position next = omega arith in
    let below : i < n = omega (arith, r.limit) in
    record {
      here = step.0.1;
      after = after;
      below = below;
      marks = λ some. marked_by n bytes i below (λ e. some (sym at.1 ∙ e));
      leaves = λ none. unmarked_by n bytes i (at.1 ∙ none);
      onward = record {
        rest = at.2 ∙ ap (λ k. drop k bytes) after;
        limit = omega (arith, r.limit);
      };
    }

-- After the last turn nothing more is marked.
pub read_all : (n : ℕ) (bytes : List ℕ) (it next : MarksReader) → Reading n bytes it → Reads it None next → (c : ℕ) → position it ≤ c →
    marked n bytes c ≡ false
read_all n bytes it next r ends c past = elim (cases_eq (take_count it) 0) [
  | inl none ↦ unmarked_from n bytes c (omega (arith, r.limit))
  | inr some ↦ unmarked_by n bytes c (get_or_past bytes c 0
      (omega (arith, length-drop (position it) bytes, ap length r.rest, (ends (omega arith)).0.0)))
]

-- The homes and the marks of the units, as far as there are both.
abbrev pub HomesReader : Type 0
HomesReader = Enumerate (Zip (Iter NodeNo) (Iter ℕ))

abbrev pub homes_left : HomesReader → List NodeNo
homes_left it = iter_rest (zip_first (enumerate_source it))

abbrev pub marks_left : HomesReader → List ℕ
marks_left it = iter_rest (zip_second (enumerate_source it))

abbrev pub ReadsHomes : HomesReader → Option (ℕ × (Bor NodeNo × Bor ℕ)) → HomesReader → Type 0
ReadsHomes = enumerate_steps (zip_steps iter_steps iter_steps)

pub record ReadingHomes (homes : List NodeNo) (bytes : List ℕ) (it : HomesReader) : Type 0 where
  pub within : enumerate_count it ≤ length homes
  pub homes_rest : homes_left it ≡ drop (enumerate_count it) homes
  pub marks_rest : marks_left it ≡ drop (enumerate_count it) bytes

pub homes_none : (homes : List NodeNo) (bytes : List ℕ) (it : HomesReader) → enumerate_count it ≡ 0 → homes_left it ≡ homes →
    marks_left it ≡ bytes → ReadingHomes homes bytes it
homes_none homes bytes it first all_homes all_marks = rw first record {
  within = omega arith;
  homes_rest = all_homes;
  marks_rest = all_marks;
}

pub record HomesTurn (homes : List NodeNo) (bytes : List ℕ) (it next : HomesReader) (i : ℕ) (home : NodeNo) (byte : ℕ) : Type 0 where
  pub here : i ≡ enumerate_count it
  pub after : i + 1 ≡ enumerate_count next
  pub below : i < length homes
  pub stands : home.0 ≡ node_at homes i
  pub marks : (byte ≡ 0 → ⊥) → is_mark (get_or bytes i 0) ≡ true
  pub leaves : byte ≡ 0 → is_mark (get_or bytes i 0) ≡ false
  pub onward : ReadingHomes homes bytes next

pub homes_turn : (homes : List NodeNo) (bytes : List ℕ) (it next : HomesReader) (i : ℕ) (home : Bor NodeNo) (mark : Bor ℕ) →
    ReadingHomes homes bytes it → ReadsHomes it (Some (i, (home, mark))) next → HomesTurn homes bytes it next i home.now mark.now
homes_turn homes bytes it next i home mark r step =
    let at = front homes (homes_left next) i home.now (record { 0 = 0 }) (ap (λ k. drop k homes) step.1 ∙ sym r.homes_rest ∙ step.0.0) in
    let mark_at = front bytes (marks_left next) i mark.now 0 (ap (λ k. drop k bytes) step.1 ∙ sym r.marks_rest ∙ step.0.1) in
    let after : i + 1 ≡ enumerate_count next = omega arith in
    record {
      here = step.1;
      after = after;
      below = at.0;
      stands = ap (λ (n : NodeNo). n.0) (sym at.1);
      marks = λ some. byte_marks _ (λ e. some (sym mark_at.1 ∙ e));
      leaves = λ none. byte_leaves _ (mark_at.1 ∙ none);
      onward = record {
        within = omega (arith, at.0);
        homes_rest = at.2 ∙ ap (λ k. drop k homes) after;
        marks_rest = mark_at.2 ∙ ap (λ k. drop k bytes) after;
      };
    }

-- After the last turn there is no further home, or no further mark.
pub homes_read : (homes : List NodeNo) (bytes : List ℕ) (it next : HomesReader) → ReadingHomes homes bytes it → ReadsHomes it None next →
    (c : ℕ) → enumerate_count it ≤ c → marked (length homes) bytes c ≡ false
homes_read homes bytes it next r ends c past = elim ends.0 [
  | inl none ↦ unmarked_from (length homes) bytes c
      (omega (arith, length-drop (enumerate_count it) homes, ap length r.homes_rest, none.1.0))
  | inr none ↦ unmarked_by (length homes) bytes c (get_or_past bytes c 0
      (omega (arith, length-drop (enumerate_count it) bytes, ap length r.marks_rest, none.1.0)))
]

-- The parents, each with the number of its node, from the last one down.
abbrev pub ParentsReader : Type 0
ParentsReader = Rev (Enumerate (Iter NodeNo))

abbrev pub parents_left : ParentsReader → List NodeNo
parents_left it = iter_rest (enumerate_source (rev_source it))

abbrev pub ReadsParents : ParentsReader → Option (ℕ × Bor NodeNo) → ParentsReader → Type 0
ReadsParents = rev_steps (enumerate_steps_back iter_steps_back (λ it. length (iter_rest it)))

pub record ReadingParents (parents : List NodeNo) (it : ParentsReader) : Type 0 where
  pub first : enumerate_count (rev_source it) ≡ 0
  pub tail : List NodeNo
  pub rest : parents_left it ++ tail ≡ parents

pub parents_none : (parents : List NodeNo) (it : ParentsReader) → enumerate_count (rev_source it) ≡ 0 → parents_left it ≡ parents → ReadingParents parents it
parents_none parents it first all = record { first = first; tail = []; rest = append-nil (parents_left it) ∙ all }

pub record ParentsTurn (parents : List NodeNo) (it next : ParentsReader) (node : ℕ) (parent : NodeNo) : Type 0 where
  pub before : length (parents_left it) ≡ suc node
  pub here : node ≡ length (parents_left next)
  pub drains : parent.0 ≡ node_at parents node
  pub onward : ReadingParents parents next

pub parents_turn : (parents : List NodeNo) (it next : ParentsReader) (node : ℕ) (parent : Bor NodeNo) → ReadingParents parents it →
    ReadsParents it (Some (node, parent)) next → ParentsTurn parents it next node parent.now
parents_turn parents it next node parent r step =
    let here : node ≡ length (parents_left next) = omega (arith, r.first, step.1.1) in
    let whole : parents_left next ++ (parent.now ∷ r.tail) ≡ parents =
    sym (append_assoc (parents_left next) (parent.now ∷ []) r.tail) ∙ ap (λ xs. xs ++ r.tail) (sym step.1.0) ∙ r.rest in
    let read = get_or-append-add (parents_left next) (parent.now ∷ r.tail) 0 (record { 0 = 0 }) in
    record {
      before = omega (arith, ap length step.1.0, length_push (parents_left next) parent.now);
      here = here;
      drains = ap (λ (n : NodeNo). n.0) (sym (ap (λ k. get_or parents k (record { 0 = 0 })) (omega arith)
          ∙ ap (λ xs. get_or xs (length (parents_left next) + 0) (record { 0 = 0 })) (sym whole) ∙ read));
      onward = record { first = omega (arith, step.0, r.first); tail = parent.now ∷ r.tail; rest = whole };
    }
