-- Memory was refused for the key of nobody to whom it was not refused before, where a client is changed, closed, or read as a request in a life that did
-- not go astray.
use Rattle.std.proofs.Common.{◌≡◌, inl, inr, refl, sym, subst, ap, ◌∙◌, ℕ, zero, suc, Bool, true, false, ◌==◌, ◌&&◌, ◌||◌, not, cond, is_some, map, List, [], ◌∷◌, ◌++◌, Option, Some, None, option_map, Result, Ok, Err}
use Rattle.std.specs.Prelude.{slice_get, slice_set}
use Rattle.pp_cache_law.proofs.Numbers.{is_same, some_is}
use Rattle.pp_client.specs.Requests.{fault_of, front_in, front_of}
use Rattle.pp_turns_law.proofs.Changed.{get_set}
use Rattle.pp_turns_law.proofs.Regained.{get_other}
use Rattle.pp_desk.specs.Closings.{Sides, closed_client, closing_at, left_at, left_by_errand, left_own, with_parts, withdrawn}
use Rattle.pp_flow.specs.Changes.{entry_of}
use Rattle.pp_flow.specs.declared.entry.Exchange.{Exchange}
use Rattle.pp_flow.specs.declared.errand.Errand.{Errand}
use Rattle.pp_flow_law.proofs.Entries.{none_some}
use Rattle.pp_framing.specs.Framing.{request_rule_of}
use Rattle.pp_framing.specs.declared.body.BodyRule.{BodyRule}
use Rattle.pp_framing.specs.declared.framing.FramingFault.{FramingFault}
use Rattle.pp_framing.specs.declared.framing.FramingFault.TheVariants.{TwoLengths, BadLength, OtherCoding}
use Rattle.pp_head.specs.Read.{Read, Whole, TooLong, Bad, More}
use Rattle.pp_head.specs.Request.{Request, request_at}
use Rattle.pp_objects.specs.declared.id.ObjectId.{ObjectId}
use Rattle.pp_seats.specs.Dues.{refused_for, refused_in}
use Rattle.pp_seats.specs.Heads.{IsFrontOf, IsKeptOf, IsKeyed, asked_in}
use Rattle.pp_seats.specs.Seats.{IsRead, IsReadBehind}
use Rattle.pp_seats.specs.declared.front.Asked.{Asked}
use Rattle.pp_seats.specs.declared.front.Front.{Front}
use Rattle.pp_seats.specs.declared.front.Front.TheVariants.{NoHeadYet, NoHead, Request as IsThere}
use Rattle.pp_seats.specs.declared.key.Key.{Key}
use Rattle.pp_seats.specs.declared.seat.Seat.{Seat}
use Rattle.pp_state.specs.Ends.{Parts, changed_at, ended, exchange_of, forsaken, left, left_source, on_seat, on_seat_where, source_at, unfollowed, without_source}
use Rattle.pp_state.specs.Hearing.{is_without_memory, lacks_key, lacks_key_at, lacks_key_in}
use Rattle.pp_state.specs.Places.{IsChangedAt, IsChangedIn}
use Rattle.pp_events_law.proofs.Alike.{AreAlike, WasAlike}
use Rattle.pp_events_law.specs.Keys.{KeepsKeys}

-- ---- who is there was there, and all

pub record WasGiven (seats : List Seat) (j : ℕ) (new : Seat) : Type 0 where
  pub old : Seat
  pub here : slice_get seats j ≡ Some old
  pub key : refused_in new.front ≡ Some 500 → refused_in old.front ≡ Some 500

pub record Gives (p q : Parts) : Type 0 where
  pub calm : q.is_astray ≡ false → p.is_astray ≡ false
  pub was : q.is_astray ≡ false → (j : ℕ) (new : Seat) → slice_get q.seats j ≡ Some new → WasGiven p.seats j new

stays_astray : (a b : Bool) → (b ≡ false → a ≡ false) → a ≡ true → b ≡ true
stays_astray a true calm is = refl
stays_astray a false calm is = absurd (let both : true ≡ false = sym is ∙ calm refl in cc both)

pub keeps : (p q : Parts) → Gives p q → KeepsKeys p q
keeps p q all = record {
  astray = stays_astray p.is_astray q.is_astray all.calm;
  given = λ calm i before after here there going refused.
      let was : WasGiven p.seats i after = all.was calm i after there in
      ap (λ (o : Seat). refused_in o.front) (some_is before was.old (sym here ∙ was.here)) ∙ was.key refused;
}

pub beside : (p q : Parts) → q.seats ≡ p.seats → q.is_astray ≡ p.is_astray → Gives p q
beside p q seats astray = record { calm = λ on. sym astray ∙ on; was = λ on j new at. record { old = new; here = ap (λ (ss : List Seat). slice_get ss j) (sym seats) ∙ at; key = λ is. is } }

pub gives_then : (p q r : Parts) → Gives p q → Gives q r → Gives p r
gives_then p q r one two = record { calm = λ on. one.calm (two.calm on); was = λ on j new at. join (two.calm on) j new (two.was on j new at) }
  where
    join : q.is_astray ≡ false → (j : ℕ) (new : Seat) → WasGiven q.seats j new → WasGiven p.seats j new
    join on j new b = let a : WasGiven p.seats j b.old = one.was on j b.old b.here in record { old = a.old; here = a.here; key = λ is. a.key (b.key is) }

pub gives_as : (p q r : Parts) → r ≡ q → Gives p q → Gives p r
gives_as p q r is all = subst (λ (o : Parts). Gives p o) (sym is) all

pub gives_alike : (p q : Parts) → AreAlike p q → q.is_astray ≡ p.is_astray → Gives p q
gives_alike p q alike astray = record {
  calm = λ on. sym astray ∙ on;
  was = λ on j new at. let was : WasAlike p.seats j new = alike.was j new at in record { old = was.old; here = was.here; key = λ is. ap (λ (f : Front). refused_in f) (sym was.is.front) ∙ is };
}

-- ---- one client is changed

abbrev pub KeepsKey : Seat → Seat → Type 0
KeepsKey seat new = refused_in new.front ≡ Some 500 → refused_in seat.front ≡ Some 500

one_set : (i : ℕ) (seats : List Seat) (seat new : Seat) → slice_get seats i ≡ Some seat → KeepsKey seat new → (j : ℕ) (other : Seat) → slice_get (slice_set seats i new) j ≡ Some other → WasGiven seats j other
one_set i seats seat new here key j other at = by (i == j) refl
  where
    by : (b : Bool) → (i == j) ≡ b → WasGiven seats j other
    by false off = record { old = other; here = sym (get_other i j seats new off) ∙ at; key = λ is. is }
    by true same =
        let one : new ≡ other = some_is new other (sym (get_set i seats seat new here) ∙ ap (λ (k : ℕ). slice_get (slice_set seats i new) k) (is_same i j same) ∙ at) in
        record { old = seat; here = ap (λ (k : ℕ). slice_get seats k) (sym (is_same i j same)) ∙ here; key = subst (λ (o : Seat). KeepsKey seat o) one key }

pub on_one : (i : ℕ) (f : Seat → Seat) (p : Parts) → ((seat : Seat) → KeepsKey seat (f seat)) → Gives p (on_seat i f p)
on_one i f p key = record { calm = λ on. on; was = λ on j new at. by j new (slice_get p.seats i) refl at }
  where
    by : (j : ℕ) (new : Seat) (o : Option Seat) → slice_get p.seats i ≡ o → slice_get (elim o as (λ t. List Seat) [ None ↦ p.seats | Some seat ↦ slice_set p.seats i (f seat) ]) j ≡ Some new → WasGiven p.seats j new
    by j new None here at = record { old = new; here = at; key = λ is. is }
    by j new (Some seat) here at = one_set i p.seats seat (f seat) here (key seat) j new at

pub on_some : (o : Option ℕ) (f : Seat → Seat) (p : Parts) → ((seat : Seat) → KeepsKey seat (f seat)) → Gives p (on_seat_where o f p)
on_some None f p key = beside p p refl refl
on_some (Some i) f p key = on_one i f p key

-- all are
pub on_all : (f : Seat → Seat) (p : Parts) → ((seat : Seat) → KeepsKey seat (f seat)) → Gives p (record p { seats = map f p.seats })
on_all f p key = record { calm = λ on. on; was = λ on j new at. by p.seats j new at }
  where
    by : (seats : List Seat) (j : ℕ) (new : Seat) → slice_get (map f seats) j ≡ Some new → WasGiven seats j new
    by [] j new at = absurd (none_some new at)
    by (seat ∷ seats) zero new at = record { old = seat; here = refl; key = subst (λ (o : Seat). KeepsKey seat o) (some_is (f seat) new at) (key seat) }
    by (seat ∷ seats) (suc j) new at = let was : WasGiven seats j new = by seats j new at in record { old = was.old; here = was.here; key = was.key }

-- ---- one is closed

pub leaves_source : (i : ℕ) (p : Parts) → Gives p (left_source i p)
leaves_source i p = by (source_at i p)
  where
    by : (o : Option ObjectId) → Gives p (elim o as (λ t. Parts) [ None ↦ p | Some id ↦ record p { seats = changed_at i without_source p.seats; cache = unfollowed id p.cache } ])
    by None = beside p p refl refl
    by (Some id) =
        let q : Parts = on_seat i without_source p in
        let r : Parts = record q { cache = unfollowed id p.cache } in
        gives_then p q r (on_one i without_source p (λ seat is. is)) (beside q r refl refl)

pub forsakes : (i : ℕ) (p : Parts) → Gives p (forsaken i p)
forsakes i p = by (exchange_of i p)
  where
    by : (o : Option Exchange) → Gives p (elim o as (λ t. Parts) [ None ↦ p | Some e ↦ left e.number p ])
    by None = beside p p refl refl
    by (Some e) = beside p (left e.number p) refl refl

leaves_ask : (i : ℕ) (o : Option Exchange) (x : Sides) → Gives x.parts (left_own i o x).parts
leaves_ask i None x = beside x.parts x.parts refl refl
leaves_ask i (Some e) x = by (option_map (λ entry. entry.errand) (entry_of e.number x.parts.flow))
  where
    ends : Gives x.parts (ended e.number x.parts)
    ends = beside x.parts (ended e.number x.parts) refl refl

    on : (b : Bool) (k : ℕ) → Gives x.parts (cond b (withdrawn e.number k x) (with_parts (forsaken i) x)).parts
    on true k = ends
    on false k = forsakes i x.parts

    at : (errand : Errand) (o : Option ℕ) → Gives x.parts (left_at i e.number errand o x).parts
    at errand None = ends
    at errand (Some k) = on (errand.asked == 0) k

    by : (o : Option Errand) → Gives x.parts (left_by_errand i e o x).parts
    by None = beside x.parts x.parts refl refl
    by (Some errand) = at errand e.place

pub closes_one : (i : ℕ) (x : Sides) → Gives x.parts (closed_client i x).parts
closes_one i x =
    let p : Parts = left_source i x.parts in
    let q : Parts = closing_at i x.parts in
    gives_then x.parts q (closed_client i x).parts (gives_then x.parts p q (leaves_source i x.parts) (on_one i (λ seat. record seat { is_closing = true }) p (λ seat is. is)))
    (leaves_ask i (exchange_of i q) (with_parts (closing_at i) x))

-- ---- what it sent is read as a request: no page is 500 but for memory, of which a life that did not go astray has none

not_memory : (status : ℕ) → (status == 500) ≡ false → status ≡ 500 → ⊥
not_memory status off is = let both : true ≡ false = sym (ap (λ (n : ℕ). n == 500) is) ∙ off in cc both

framed : (r : Result BodyRule FramingFault) (key : Key) → refused_for (fault_of r) (Some key) ≡ Some 500 → ⊥
framed (Ok rule) key is = cc is
framed (Err OtherCoding) key is = not_memory 411 refl (some_is 411 500 is)
framed (Err TwoLengths) key is = not_memory 400 refl (some_is 400 500 is)
framed (Err BadLength) key is = not_memory 400 refl (some_is 400 500 is)

asked_never : (a : Asked) (request : Request) → IsKeptOf a request (fault_of (request_rule_of request.fields)) → lacks_key_in (Some a) ≡ false → refused_for a.refusal a.key ≡ Some 500 → ⊥
asked_never a request of lacks refused = by a.key a.refusal of.0 lacks refused
  where
    by : (key : Option Key) (refusal : Option ℕ) → IsKeyed key refusal request.target (fault_of (request_rule_of request.fields)) → (not (is_some key) && is_without_memory refusal) ≡ false → refused_for refusal key ≡ Some 500 → ⊥
    by (Some key) refusal keyed lacks refused = framed (request_rule_of request.fields) key (ap (λ (o : Option ℕ). refused_for o (Some key)) (sym keyed.1) ∙ refused)
    by None refusal (inl wrong) lacks refused = not_memory 400 refl (some_is 400 500 (ap (λ (o : Option ℕ). refused_for o None) (sym wrong.2) ∙ refused))
    by None refusal (inr memory) lacks refused = let both : true ≡ false = sym (ap (λ (o : Option ℕ). is_without_memory o) memory) ∙ lacks in cc both

never_in : (r : Read Request) (front : Front) → IsFrontOf front (front_in r) → lacks_key_in (asked_in front) ≡ false → refused_in front ≡ Some 500 → ⊥
never_in (Whole request) (IsThere a) of lacks refused = asked_never a request of lacks refused
never_in TooLong (NoHead status) of lacks refused = not_memory 431 refl (sym of ∙ some_is status 500 refused)
never_in Bad (NoHead status) of lacks refused = not_memory 400 refl (sym of ∙ some_is status 500 refused)
never_in More NoHeadYet of lacks refused = cc refused
never_in r front of lacks refused = absurd of

never_of : (bytes : List ℕ) (front : Front) → IsFrontOf front (front_of bytes) → lacks_key_in (asked_in front) ≡ false → refused_in front ≡ Some 500 → ⊥
never_of [] NoHeadYet of lacks refused = cc refused
never_of (b ∷ bytes) front of lacks refused = never_in (request_at (b ∷ bytes)) front of lacks refused
never_of bytes front of lacks refused = absurd of

read_key : (old new : Seat) → IsRead old new → lacks_key new ≡ false → KeepsKey old new
read_key old new is lacks refused = by old.front is
  where
    by : (f : Front) → IsReadBehind f old new → refused_in old.front ≡ Some 500
    by NoHeadYet read = absurd (never_of (old.client.heard.head ++ old.client.heard.rest) new.front read.0 lacks refused)
    by (NoHead status) same = ap (λ (o : Seat). refused_in o.front) (sym same) ∙ refused
    by (IsThere a) same = ap (λ (o : Seat). refused_in o.front) (sym same) ∙ refused

neither_one : (a b : Bool) → (a || b) ≡ false → a ≡ false
neither_one true b is = absurd (cc is)
neither_one false b is = refl

neither_two : (a b : Bool) → (a || b) ≡ false → b ≡ false
neither_two true b is = absurd (cc is)
neither_two false b is = is

pub looks : (i : ℕ) (p q : Parts) → IsChangedAt IsRead i p.seats q.seats → q.is_astray ≡ (p.is_astray || lacks_key_at i q.seats) → Gives p q
looks i p q change astray = record {
  calm = λ on. neither_one p.is_astray (lacks_key_at i q.seats) (sym astray ∙ on);
  was = λ on j new at. by (neither_two p.is_astray (lacks_key_at i q.seats) (sym astray ∙ on)) j new at (slice_get p.seats i) refl change;
}
  where
    by : lacks_key_at i q.seats ≡ false → (j : ℕ) (new : Seat) → slice_get q.seats j ≡ Some new → (o : Option Seat) → slice_get p.seats i ≡ o → IsChangedIn IsRead o i p.seats q.seats → WasGiven p.seats j new
    by lacks j new at None here same = record { old = new; here = ap (λ (ss : List Seat). slice_get ss j) (sym same) ∙ at; key = λ is. is }
    by lacks j new at (Some seat) here change =
        let there : slice_get q.seats i ≡ Some change.0 = ap (λ (ss : List Seat). slice_get ss i) change.2 ∙ get_set i p.seats seat change.0 here in
        let given : lacks_key change.0 ≡ false = ap (λ (o : Option Seat). elim o as (λ t. Bool) [ None ↦ false | Some other ↦ lacks_key other ]) (sym there) ∙ lacks in
        one_set i p.seats seat change.0 here (read_key seat change.0 change.1 given) j new (ap (λ (ss : List Seat). slice_get ss j) (sym change.2) ∙ at)
