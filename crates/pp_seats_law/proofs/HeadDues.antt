-- What is decided for a seat by its head alone, and by the row of its key, is what is decided for its client.
use Rattle.std.proofs.Common.{◌≡◌, ◌⊎◌, inl, inr, refl, sym, ap, ap₂, ◌∙◌, ℕ, Bool, true, false, ◌==◌, ◌&&◌, is_ok, List, Option, Some, None, option_map, Result, Ok, Err, arith}
use Rattle.std.proofs.lemmas.Bool.Decides.{nat_tests}
use Rattle.pp_client.specs.Replies.{Reply as Said}
use Rattle.pp_objects.specs.declared.id.ObjectId.{ObjectId}
use Rattle.pp_plan.specs.declared.table.Begun.{Begun}
use Rattle.pp_plan.specs.declared.table.Begun.TheVariants.{Nothing, Settled, Other, Widened}
use Rattle.pp_target.specs.Key.{Key, key_in}
use Rattle.pp_target.specs.declared.target.TargetFault.{TargetFault}
use Rattle.pp_world.specs.declared.note.Decision.{Decision}
use Rattle.pp_world.specs.declared.note.Decision.TheVariants.{Refuse}
use Rattle.pp_law.specs.Decisions.{begun_now, decide_for, decide_head}
use Rattle.pp_law.specs.Lists.{Bytes, is_some_with}
use Rattle.pp_law.specs.Requests.{Front, NoHeadYet, NoHead, IsRequest, Parsed, refusal_by_rule, refusal_of}
use Rattle.pp_law.specs.State.{State, Client, Instance, Brought, Awaited, Useless, Joins, Passes, TooWide}
use Rattle.pp_law.specs.Table.{row as row_of}
use Rattle.pp_seats.specs.declared.front.Front.{Front as SeatFront}
use Rattle.pp_seats.specs.declared.front.Front.TheVariants.{NoHeadYet as NoneYet, NoHead as NoneThere, Request as IsThere}
use Rattle.pp_seats.specs.declared.key.Key.{Key as OwnedKey}
use Rattle.pp_seats.specs.declared.seat.Brought.{Brought as SeatBrought}
use Rattle.pp_seats.specs.declared.seat.Brought.TheVariants.{Awaited as IsAwaited, Useless as NoneOfUse, Joins as JoinsRow, Passes as PassesOn, TooWide as IsTooWide, Refused}
use Rattle.pp_seats.specs.declared.seat.Course.{Course as SeatCourse}
use Rattle.pp_seats.specs.Dues.{begun_in, is_refused_in, is_row_joined, refused_for, refused_in}
use Rattle.pp_seats.specs.Heads.{asked_in, owned_in}
use Rattle.pp_seats_law.specs.Dues.{AreApart, BroughtCountsAsTheLaws, HeadsAreTheLaws, IsByRow, RowsDecideAsTheLaws}
use Rattle.pp_seats_law.specs.Fronts.{ShowsFront, ShowsKey}
use Rattle.pp_seats_law.specs.Replies.{ShowsBrought, ShowsFate, source_number}

none_some : {A : Type 0} {x : A} → None ≡ Some x → ⊥
none_some e = absurd (cc e)

some_none : {A : Type 0} {x : A} → Some x ≡ None → ⊥
some_none e = absurd (cc e)

same_some : (m n : ℕ) → Some m ≡ Some n → m ≡ n
same_some m n is = cc is

-- ---- its head alone

abbrev decided_with : State → Client → Parsed → Option ℕ → Option Decision
decided_with s c r refusal = Some (elim refusal as (λ x. Decision) [ Some status ↦ Refuse status | None ↦ elim r.key as (λ x. Decision) [ Ok key ↦ decide_for s c r.head key | Err fault ↦ Refuse 400 ] ])

refused_key : (r : Parsed) (key : Result Key TargetFault) → r.key ≡ key → is_ok key ≡ false → refusal_of r ≡ Some 400
refused_key r (Ok key) is isnt = absurd (cc isnt)
refused_key r (Err fault) is isnt = ap (λ (k : Result Key TargetFault). elim k as (λ x. Option ℕ) [ Err f ↦ Some 400 | Ok key ↦ refusal_by_rule r.rule ]) is

refused_head : (key : Option OwnedKey) (refusal : Option ℕ) (r : Parsed) (status : ℕ) → ShowsKey key refusal r → refused_for refusal key ≡ Some status → (status ≡ 500) ⊎ (refusal_of r ≡ Some status)
refused_head (Some key) (Some n) r status shows is = inr (sym shows.1 ∙ is)
refused_head (Some key) None r status shows is = absurd (none_some is)
refused_head None (Some n) r status (inl bad) is = inr (refused_key r r.key refl bad.0 ∙ sym bad.1 ∙ is)
refused_head None (Some n) r status (inr memory) is = inl (same_some status 500 (sym is ∙ memory))
refused_head None None r status (inl bad) is = absurd (none_some bad.1)
refused_head None None r status (inr memory) is = absurd (none_some memory)

decided_by : (s : State) (c : Client) (front : SeatFront) (f : Front) (status : ℕ) → ShowsFront front f → refused_in front ≡ Some status
    → (status ≡ 500) ⊎ ((elim f as (λ x. Option Decision) [ NoHeadYet ↦ None | NoHead n ↦ Some (Refuse n) | IsRequest r ↦ Some (decide_head s c r) ]) ≡ Some (Refuse status))
decided_by s c NoneYet NoHeadYet status shows is = absurd (none_some is)
decided_by s c (NoneThere n) (NoHead m) status shows is = inr (ap (λ (k : ℕ). Some (Refuse k)) (sym shows ∙ same_some n status is))
decided_by s c (IsThere a) (IsRequest r) status shows is = by (refused_head a.key a.refusal r status shows.key is)
  where
    by : (status ≡ 500) ⊎ (refusal_of r ≡ Some status) → (status ≡ 500) ⊎ (Some (decide_head s c r) ≡ Some (Refuse status))
    by (inl memory) = inl memory
    by (inr refused) = inr (ap (decided_with s c r) refused)
decided_by s c front f status shows is = absurd shows

pub heads : HeadsAreTheLaws
heads s status number name owed seat c shows is = decided_by s c seat.front c.front status shows.front is

-- ---- the row of its key

not_refused : (key : OwnedKey) (k : Option OwnedKey) (refusal : Option ℕ) (r : Parsed) → ShowsKey k refusal r → refused_for refusal k ≡ None → k ≡ Some key → (refusal_of r ≡ None) × (r.key ≡ Ok (key_in key.text.items key.place))
not_refused key (Some other) None r shows isnt is = (sym shows.1, by (let e : other ≡ key = cc is in e))
  where
    by : other ≡ key → r.key ≡ Ok (key_in key.text.items key.place)
    by same = shows.0 ∙ ap (λ (x : OwnedKey). Ok (key_in x.text.items x.place)) same
not_refused key (Some other) (Some n) r shows isnt is = absurd (some_none isnt)
not_refused key None refusal r shows isnt is = absurd (none_some is)

row_decides : (s : State) (c : Client) (key : OwnedKey) (front : SeatFront) (f : Front) → c.front ≡ f → ShowsFront front f → refused_in front ≡ None → owned_in (asked_in front) ≡ Some key → IsByRow s c (key_in key.text.items key.place)
row_decides s c key NoneYet NoHeadYet same shows isnt is = absurd (none_some is)
row_decides s c key (NoneThere n) (NoHead m) same shows isnt is = absurd (none_some is)
row_decides s c key (IsThere a) (IsRequest r) same shows isnt is =
    let there = not_refused key a.key a.refusal r shows.key isnt is in record {
      request = r;
      front = same;
      decides =
          ap (λ (f : Front). elim f as (λ x. Option Decision) [ NoHeadYet ↦ None | NoHead n ↦ Some (Refuse n) | IsRequest p ↦ Some (decide_head s c p) ]) same
          ∙ ap (decided_with s c r) there.0
          ∙ ap (λ (k : Result Key TargetFault). Some (elim k as (λ x. Decision) [ Ok own ↦ decide_for s c r.head own | Err fault ↦ Refuse 400 ])) there.1;
    }
row_decides s c key front f same shows isnt is = absurd shows

pub rows_decide : RowsDecideAsTheLaws
rows_decide s key number name owed seat c shows isnt is = row_decides s c key seat.front c.front refl shows.front isnt is

-- ---- what its exchange brought

same_number : (m n : ℕ) → (m == n) ≡ true → m ≡ n
same_number m n is = grind (arith, nat_tests)

number_same : (m n : ℕ) → m ≡ n → (m == n) ≡ true
number_same m n is = grind (arith, nat_tests)

and_false : (b : Bool) → (b && false) ≡ false
and_false true = refl
and_false false = refl

-- where no two instances have one number, one is another where its number is that of the other
same_ids : (number : ℕ → ℕ) (id joined : ObjectId) (b : Bool) → (number id.life ≡ number joined.life → id ≡ joined) → (number id.life == number joined.life) ≡ b → ((id.slot == joined.slot) && (id.life == joined.life)) ≡ b
same_ids number id joined true apart is =
    let one : id ≡ joined = apart (same_number (number id.life) (number joined.life) is) in
    ap₂ (λ (a b : Bool). a && b) (number_same id.slot joined.slot (ap (λ (x : ObjectId). x.slot) one)) (number_same id.life joined.life (ap (λ (x : ObjectId). x.life) one))
same_ids number id joined false apart isnt = by (id.life == joined.life) refl
  where
    other : (number id.life == number joined.life) ≡ true → ⊥
    other is = let e : true ≡ false = sym is ∙ isnt in absurd (cc e)

    by : (b : Bool) → (id.life == joined.life) ≡ b → ((id.slot == joined.slot) && (id.life == joined.life)) ≡ false
    by true is = absurd (other (number_same (number id.life) (number joined.life) (ap (λ (n : ℕ). number n) (same_number id.life joined.life is))))
    by false is = ap (λ (b : Bool). (id.slot == joined.slot) && b) is ∙ and_false (id.slot == joined.slot)

joined_same : (number : ℕ → ℕ) (joined : ObjectId) (row : Option ObjectId) (x : Option Instance) → source_number number row ≡ option_map (λ (i : Instance). i.id) x → ((id : ObjectId) → row ≡ Some id → number id.life ≡ number joined.life → id ≡ joined)
    → is_row_joined joined row ≡ is_some_with (λ i. i.id == number joined.life) x
joined_same number joined None None same apart = refl
joined_same number joined None (Some x) same apart = absurd (none_some same)
joined_same number joined (Some id) None same apart = absurd (some_none same)
joined_same number joined (Some id) (Some x) same apart =
    same_ids number id joined (number id.life == number joined.life) (apart id refl) refl ∙ ap (λ (n : ℕ). n == number joined.life) (same_some (number id.life) x.id same)

abbrev counted_in : State → Bytes → Brought → Begun
counted_in s key brought = elim brought [
  | Awaited ↦ Nothing
  | Useless ↦ Nothing
  | Joins id plain ↦ elim (is_some_with (λ x. x.id == id) (row_of s key)) [ true ↦ Settled | false ↦ Nothing ]
  | Passes p ↦ Other
  | TooWide ↦ Widened
]

brought_counts : (number : ℕ → ℕ) (s : State) (key : Bytes) (row : Option ObjectId) (name : Bytes) (said : Said) (front : Front) (brought : SeatBrought) (other : Brought) → ShowsBrought number name said front brought other → source_number number row ≡ option_map (λ (i : Instance). i.id) (row_of s key)
    → AreApart number row brought → begun_in brought row ≡ counted_in s key other
brought_counts number s key row name said front IsAwaited Awaited shows same apart = refl
brought_counts number s key row name said front NoneOfUse Useless shows same apart = refl
brought_counts number s key row name said front (JoinsRow joined plain) (Joins n other) shows same apart =
    ap (λ (b : Bool). elim b as (λ x. Begun) [ true ↦ Settled | false ↦ Nothing ])
    (joined_same number joined row (row_of s key) same (λ id is. apart id joined plain is refl) ∙ ap (λ (m : ℕ). is_some_with (λ x. x.id == m) (row_of s key)) shows.0)
brought_counts number s key row name said front (PassesOn x) (Passes p) shows same apart = refl
brought_counts number s key row name said front IsTooWide TooWide shows same apart = refl
brought_counts number s key row name said front brought other shows same apart = absurd shows

fate_counts : (number : ℕ → ℕ) (s : State) (key : Bytes) (row : Option ObjectId) (name : Bytes) (owed : List Bytes) (said : Said) (course : SeatCourse) (brought : SeatBrought) (c : Client) → ShowsFate number name owed said course brought c → is_refused_in brought ≡ false
    → source_number number row ≡ option_map (λ (i : Instance). i.id) (row_of s key) → AreApart number row brought → begun_in brought row ≡ begun_now s c key
fate_counts number s key row name owed said course Refused c shows isnt same apart = absurd (cc isnt)
fate_counts number s key row name owed said course IsAwaited c shows isnt same apart = brought_counts number s key row name said c.front IsAwaited c.brought shows.1 same apart
fate_counts number s key row name owed said course NoneOfUse c shows isnt same apart = brought_counts number s key row name said c.front NoneOfUse c.brought shows.1 same apart
fate_counts number s key row name owed said course (JoinsRow id plain) c shows isnt same apart = brought_counts number s key row name said c.front (JoinsRow id plain) c.brought shows.1 same apart
fate_counts number s key row name owed said course (PassesOn x) c shows isnt same apart = brought_counts number s key row name said c.front (PassesOn x) c.brought shows.1 same apart
fate_counts number s key row name owed said course IsTooWide c shows isnt same apart = brought_counts number s key row name said c.front IsTooWide c.brought shows.1 same apart

pub brought_counts_so : BroughtCountsAsTheLaws
brought_counts_so s row key number name owed seat c shows isnt same apart = fate_counts number s key row name owed seat.client.reply seat.course seat.brought c shows.fate isnt same apart
