-- What nothing that is due tells of a client; and who says something.
use Rattle.std.proofs.Common.{◌≡◌, refl, Bool, true, false, not, ◌&&◌, ◌||◌, [], ◌∷◌, ◌++◌, find, Option, Some, None, option_map, sym, ap, ap₂, ◌∙◌}
use Rattle.pp_text.specs.Bytes.{is_empty}
use Rattle.pp_world.specs.declared.note.Cause.TheVariants.{Idle, Origin, Short, Stop, Superseded}
use Rattle.pp_world.specs.declared.note.Cause.{Cause}
use Rattle.pp_world.specs.declared.note.Decision.{Decision}
use Rattle.pp_law.specs.Connections.{is_trying}
use Rattle.pp_law.specs.Due.{CutOff, Decide, Due, cut_in, due_cut, due_decision, due_of, give_up, is_dry, is_idle, is_short, is_superseded}
use Rattle.pp_law.specs.Lists.{Bytes, is_some_with}
use Rattle.pp_law.specs.Offers.{body_part, has_to_say, is_at_body, passed_part, piece, reply_part}
use Rattle.pp_law.specs.Stages.{is_begun, is_passing, reply_of}
use Rattle.pp_law.specs.State.{State, AskTooLong, Client, Course, OutOfTries, Reply, RowRefused, Trying}
use Rattle.pp_law.specs.Table.{Next, is_next_held, next_of}
use Rattle.pp_laws_ends.proofs.Ahead.{or_first}

-- ---- what is due

pub trying_of : (course : Course) (o : Option Decision) → give_up course o ≡ None → (is_trying course ≡ true) × (o ≡ None)
trying_of (Trying n) o is = (refl, is)
trying_of OutOfTries o is = absurd (cc is)
trying_of AskTooLong o is = absurd (cc is)
trying_of RowRefused o is = absurd (cc is)

none_cut : (t : State) (c : Client) → due_of t c ≡ None → due_cut t c ≡ None
none_cut t c none = by (due_cut t c) (due_decision t c) none
  where
    by : (o : Option Cause) (p : Option Decision) → (elim o as (λ x. Option Due) [ Some cause ↦ Some (CutOff c.number cause) | None ↦ elim p as (λ x. Option Due) [ Some d ↦ Some (Decide c.number c.index d) | None ↦ None ] ]) ≡ None → o ≡ None
    by (Some cause) p at = absurd (cc at)
    by None p at = refl

five : (a b d e f : Bool) → option_map (λ (x : Bool × Cause). x.1) (find (λ (x : Bool × Cause). x.0) ((a, Stop) ∷ (b, Short) ∷ (d, Origin) ∷ (e, Superseded) ∷ (f, Idle) ∷ [])) ≡ None → (b ≡ false) × (d ≡ false) × (e ≡ false)
five true b d e f is = absurd (cc is)
five false true d e f is = absurd (cc is)
five false false true e f is = absurd (cc is)
five false false false true f is = absurd (cc is)
five false false false false f is = (refl, refl, refl)

and_off : (a b : Bool) → (a && b) ≡ false → a ≡ true → b ≡ false
and_off true b off is = off
and_off false b off is = absurd (cc is)

on_not : (t : Bool) → not t ≡ false → t ≡ true
on_not true off = refl
on_not false off = absurd (cc off)

-- no cut is due to it
pub record Uncut (t : State) (c : Client) : Type 0 where
  pub whole : is_dry t c ≡ true → is_short c ≡ false
  pub tries : is_dry t c ≡ true → is_trying c.course ≡ true
  pub stands : is_begun c ≡ true → is_superseded t c ≡ false

pub uncut : (t : State) (c : Client) → c.is_closing ≡ false → due_of t c ≡ None → Uncut t c
uncut t c going none =
    let all = five (t.is_stopped && is_begun c) (is_dry t c && is_short c) (is_dry t c && not (is_trying c.course)) (is_begun c && is_superseded t c) (is_idle t c) (sym (ap (λ b. elim b as (λ x. Option Cause) [ true ↦ None | false ↦ cut_in t c ]) going) ∙ none_cut t c none) in
    record {
      whole = and_off (is_dry t c) (is_short c) all.0;
      tries = λ dry. on_not (is_trying c.course) (and_off (is_dry t c) (not (is_trying c.course)) all.1 dry);
      stands = and_off (is_begun c) (is_superseded t c) all.2;
    }

-- ---- what is said

-- with these bytes of its row, and its next one held or not
abbrev says_with : Client → Bytes → Bool → Bool
says_with c bytes held =
    not (is_empty (elim (is_empty c.interim_left) as (λ y. Bytes) [
      | false ↦ c.interim_left
      | true ↦ elim (reply_of c) as (λ y. Bytes) [ None ↦ [] | Some r ↦ elim r.has_begun as (λ y. Bytes) [ false ↦ [] | true ↦ r.head_left ++ (elim (is_passing r.decision) as (λ y. Bytes) [ true ↦ passed_part c | false ↦ bytes ]) ] ]
    ])) || (is_at_body c && held)

abbrev bytes_of : State → Option Next → Bytes
bytes_of s o = elim o as (λ y. Bytes) [ None ↦ [] | Some n ↦ piece s n ]

says_as : (s : State) (c : Client) → has_to_say s c ≡ says_with c (bytes_of s (next_of s c)) (is_some_with (is_next_held s) (next_of s c))
says_as s c = refl

longer : (xs ys : Bytes) → not (is_empty (xs ++ [])) ≡ true → not (is_empty (xs ++ ys)) ≡ true
longer [] ys is = absurd (cc is)
longer (x ∷ xs) ys is = refl

says_more : (c : Client) (bytes : Bytes) (held : Bool) → says_with c [] false ≡ true → says_with c bytes held ≡ true
says_more c bytes held is = by (is_empty c.interim_left) (reply_of c) is
  where
    none_at : (a : Bool) → (a && false) ≡ true → ⊥
    none_at true at = cc at
    none_at false at = cc at

    replied : (begun passes : Bool) (head passed : Bytes) → (not (is_empty (elim begun as (λ y. Bytes) [ false ↦ [] | true ↦ head ++ (elim passes as (λ y. Bytes) [ true ↦ passed | false ↦ [] ]) ])) || (is_at_body c && false)) ≡ true
        → (not (is_empty (elim begun as (λ y. Bytes) [ false ↦ [] | true ↦ head ++ (elim passes as (λ y. Bytes) [ true ↦ passed | false ↦ bytes ]) ])) || (is_at_body c && held)) ≡ true
    replied false passes head passed at = absurd (none_at (is_at_body c) at)
    replied true true head passed at = first (not (is_empty (head ++ passed))) at
      where
        first : (a : Bool) → (a || (is_at_body c && false)) ≡ true → (a || (is_at_body c && held)) ≡ true
        first true at1 = refl
        first false at1 = absurd (none_at (is_at_body c) at1)
    replied true false head passed at = or_first _ (is_at_body c && held) (longer head bytes (first (not (is_empty (head ++ []))) at))
      where
        first : (a : Bool) → (a || (is_at_body c && false)) ≡ true → a ≡ true
        first true at1 = refl
        first false at1 = absurd (none_at (is_at_body c) at1)

    by : (empty : Bool) (o : Option Reply)
        → (not (is_empty (elim empty as (λ y. Bytes) [ false ↦ c.interim_left | true ↦ elim o as (λ y. Bytes) [ None ↦ [] | Some r ↦ elim r.has_begun as (λ y. Bytes) [ false ↦ [] | true ↦ r.head_left ++ (elim (is_passing r.decision) as (λ y. Bytes) [ true ↦ passed_part c | false ↦ [] ]) ] ] ])) || (is_at_body c && false)) ≡ true
        → (not (is_empty (elim empty as (λ y. Bytes) [ false ↦ c.interim_left | true ↦ elim o as (λ y. Bytes) [ None ↦ [] | Some r ↦ elim r.has_begun as (λ y. Bytes) [ false ↦ [] | true ↦ r.head_left ++ (elim (is_passing r.decision) as (λ y. Bytes) [ true ↦ passed_part c | false ↦ bytes ]) ] ] ])) || (is_at_body c && held)) ≡ true
    by false o at = first (not (is_empty c.interim_left)) at
      where
        first : (a : Bool) → (a || (is_at_body c && false)) ≡ true → (a || (is_at_body c && held)) ≡ true
        first true at1 = refl
        first false at1 = absurd (none_at (is_at_body c) at1)
    by true None at = absurd (none_at (is_at_body c) at)
    by true (Some r) at = replied r.has_begun (is_passing r.decision) r.head_left (passed_part c) at

-- where its next byte is the same, and what is there of it, it says as much; and where it had none no less
pub says_on : (t u : State) (c : Client) → ((n : Next) → next_of t c ≡ Some n → (next_of u c ≡ Some n) × (is_next_held u n ≡ is_next_held t n) × (piece u n ≡ piece t n)) → has_to_say t c ≡ true → has_to_say u c ≡ true
says_on t u c same is = by (next_of t c) refl is
  where
    by : (o : Option Next) → next_of t c ≡ o → says_with c (bytes_of t o) (is_some_with (is_next_held t) o) ≡ true → has_to_say u c ≡ true
    by None none at = says_more c (bytes_of u (next_of u c)) (is_some_with (is_next_held u) (next_of u c)) at
    by (Some n) some at =
        let w = same n some in
        ap (λ o. says_with c (bytes_of u o) (is_some_with (is_next_held u) o)) w.0 ∙ ap₂ (λ bytes held. says_with c bytes held) w.2 w.1 ∙ at

-- ---- and who says nothing

pub record Silent (u : State) (c : Client) (r : Reply) : Type 0 where
  pub interim : is_empty c.interim_left ≡ true
  pub head : is_empty r.head_left ≡ true
  pub body : is_empty (body_part u c r) ≡ true

first_empty : (xs ys : Bytes) → is_empty (xs ++ ys) ≡ true → (is_empty xs ≡ true) × (is_empty ys ≡ true)
first_empty [] ys is = (refl, is)
first_empty (x ∷ xs) ys is = absurd (cc is)

none_of : (a b : Bool) → (not a || b) ≡ false → a ≡ true
none_of true b off = refl
none_of false b off = absurd (cc off)

pub silent_of : (u : State) (c : Client) (r : Reply) → reply_of c ≡ Some r → r.has_begun ≡ true → has_to_say u c ≡ false → Silent u c r
silent_of u c r reply begun off = by (is_empty c.interim_left) refl off
  where
    part : reply_part u c ≡ r.head_left ++ body_part u c r
    part =
        ap (λ o. elim o as (λ y. Bytes) [ None ↦ [] | Some x ↦ elim x.has_begun as (λ y. Bytes) [ false ↦ [] | true ↦ x.head_left ++ body_part u c x ] ]) reply
        ∙ ap (λ b. elim b as (λ y. Bytes) [ false ↦ [] | true ↦ r.head_left ++ body_part u c r ]) begun

    by : (b : Bool) → is_empty c.interim_left ≡ b → (not (is_empty (elim b as (λ y. Bytes) [ false ↦ c.interim_left | true ↦ reply_part u c ])) || (is_at_body c && is_some_with (is_next_held u) (next_of u c))) ≡ false → Silent u c r
    by false some at = let both : true ≡ false = sym (none_of (is_empty c.interim_left) _ at) ∙ some in absurd (cc both)
    by true none at =
        let w = first_empty r.head_left (body_part u c r) (ap is_empty (sym part) ∙ none_of (is_empty (reply_part u c)) _ at) in
        record { interim = none; head = w.0; body = w.1 }

some_head : (xs ys : Bytes) → is_empty xs ≡ false → is_empty (xs ++ ys) ≡ false
some_head [] ys is = absurd (cc is)
some_head (x ∷ xs) ys is = refl

-- whose head is there says something
pub head_says : (u : State) (c : Client) (r : Reply) → reply_of c ≡ Some r → r.has_begun ≡ true → is_empty r.head_left ≡ false → has_to_say u c ≡ true
head_says u c r reply begun some = by (has_to_say u c) refl
  where
    by : (b : Bool) → has_to_say u c ≡ b → b ≡ true
    by true is = refl
    by false off = let both : true ≡ false = sym (silent_of u c r reply begun off).head ∙ some in absurd (cc both)
