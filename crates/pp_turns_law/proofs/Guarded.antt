-- Whether something is due of a seat, by the row of its key in memory or kept, is whether something is due of its client.
use Rattle.std.proofs.Common.{◌≡◌, ◌⊎◌, inl, inr, refl, sym, subst, ap, ap₂, ◌∙◌, ℕ, Bool, true, false, not, ◌&&◌, ◌||◌, is_some, [], List, Option, Some, None, option_map}
use Rattle.std.specs.Prelude.{bytes_eq, slice_get}
use Rattle.std.specs.List.{list_any}
use Rattle.pp_cache_law.proofs.Alike.{rows_of}
use Rattle.pp_cache_law.specs.Kept.{AreAsKept, AreKept}
use Rattle.pp_cache_law.specs.Pairs.{AreBoth}
use Rattle.pp_cache_law.specs.Tables.{ShowsInstance, ShowsTable}
use Rattle.pp_client.specs.Requests.{Front as Heading, current_of}
use Rattle.pp_due.specs.Due.{cut_of, decision_of, due_of, has_source_standing}
use Rattle.pp_due.specs.Entering.{asks_by_kept, decide_by_kept, decides_by_key, decides_by_row, has_decision, is_due_to, is_to_decide, is_to_enter, kept_row, may_share_first, plain_key}
use Rattle.pp_due.specs.OnDisk.{kept_alone as kept_in_turn}
use Rattle.pp_decide.specs.Decide.{decide, kind_of}
use Rattle.pp_decide.specs.Sharing.{due_undecided, shared_ask}
use Rattle.pp_flow_law.specs.Tables.{Leaving}
use Rattle.pp_fresh.specs.declared.aging.Times.{Times}
use Rattle.pp_head.specs.Request.{Request}
use Rattle.pp_law.specs.Decisions.{begun_now, decide as decide_by_law, decide_for as decide_for_law, decide_head, if_fits as if_fits_law}
use Rattle.pp_law.specs.Deciding.{is_for_memory}
use Rattle.pp_law.specs.Due.{due_of as due_by_law}
use Rattle.pp_law.specs.Lists.{Bytes}
use Rattle.pp_law.specs.Requests.{Front, NoHeadYet, NoHead, IsRequest}
use Rattle.pp_law.specs.Sharing.{due_undecided as undecided_by_law, shared_ask as shared_by_law}
use Rattle.pp_law.specs.State.{State, Client, Entry, Instance as Known}
use Rattle.pp_law.specs.Table.{is_below, of_entry, of_instance, row, row_for, row_on_disk, shown_span}
use Rattle.pp_objects.specs.Instances.{Instance, row_of}
use Rattle.pp_objects.specs.Kept.{kept_of}
use Rattle.pp_peers.specs.declared.peers.Peer.{Peer}
use Rattle.pp_plan.specs.Decision.{decision}
use Rattle.pp_plan.specs.Row.{Row}
use Rattle.pp_plan.specs.declared.table.Begun.{Begun}
use Rattle.pp_ask.specs.declared.kind.AskKind.{AskKind}
use Rattle.pp_seats.specs.Dues.{by_stage_in, begun_in, decision_in, due_in, give_up_in, is_refused_in, lost_in, may_share, refused_in, undecided_in}
use Rattle.pp_seats.specs.Follows.{answer_in}
use Rattle.pp_seats.specs.Heads.{asked_in, owned_in}
use Rattle.pp_seats.specs.Seats.{is_told_in, is_undecided_in}
use Rattle.pp_seats.specs.declared.seat.Course.{Course}
use Rattle.pp_seats.specs.declared.seat.Course.TheVariants.{Trying, OutOfTries, AskTooLong}
use Rattle.pp_seats.specs.declared.due.Due.{Due as SeatDue}
use Rattle.pp_seats.specs.declared.due.Due.TheVariants.{Decide as IsDecided}
use Rattle.pp_seats.specs.declared.front.Asked.{Asked}
use Rattle.pp_seats.specs.declared.front.Front.{Front as SeatFront}
use Rattle.pp_seats.specs.declared.front.Front.TheVariants.{NoHeadYet as NoneYet, NoHead as NoneThere, Request as IsThere}
use Rattle.pp_seats.specs.declared.key.Key.{Key as OwnedKey}
use Rattle.pp_seats.specs.declared.seat.Seat.{Seat}
use Rattle.pp_seats.specs.declared.seat.Shared.{Shared}
use Rattle.pp_seats.specs.declared.seat.Stage.{Stage as SeatStage}
use Rattle.pp_seats.specs.declared.seat.Stage.TheVariants.{Undecided as IsUndecided, Waiting as IsWaiting, Passing as IsPassing, Answering as IsAnswering}
use Rattle.pp_seats_law.proofs.Dues.{dues, sharing}
use Rattle.pp_seats_law.proofs.HeadDues.{brought_counts_so, heads, rows_decide}
use Rattle.pp_seats_law.specs.Dues.{IsByRow, cut_of as cut_by_law, due_as, has_lost_its_row, waits_on_still}
use Rattle.pp_seats_law.specs.Seats.{ShowsOpen, ShowsSeat}
use Rattle.pp_state.specs.declared.state.State.{State as Turn}
use Rattle.pp_store.specs.Kept.{Kept, KeptMap, kept_of as kept_in_store}
use Rattle.pp_target.specs.Key.{key_in}
use Rattle.pp_target.specs.Name.{name_of}
use Rattle.pp_text.specs.Fields.{Field}
use Rattle.pp_valid.specs.declared.version.Version.{Version}
use Rattle.pp_world.specs.declared.note.Cause.{Cause}
use Rattle.pp_world.specs.declared.note.Decision.{Decision}
use Rattle.pp_world.specs.declared.note.Decision.TheVariants.{Refuse}
use Rattle.pp_turns_law.proofs.AllDue.{all_dues, cut_same, decision_same, refused_any}
use Rattle.pp_turns_law.proofs.Brought.{closed}
use Rattle.pp_turns_law.proofs.Decided.{IsAskedAs, decide_with, fits_same, heard_as, kinds}
use Rattle.pp_turns_law.proofs.Reading.{decidable, hidden, none_hidden, turn_hidden}
use Rattle.pp_turns_law.proofs.Shares.{shared_same}
use Rattle.pp_turns_law.specs.Rows.{IsKeptAs, IsReady, ShowsDisk}
use Rattle.pp_turns_law.specs.Turns.{IsFollowing, ShowsTurn}

none_some : {A : Type 0} {x : A} → None ≡ Some x → ⊥
none_some e = absurd (cc e)

same_some : {A : Type 0} {x y : A} → Some x ≡ Some y → x ≡ y
same_some e = cc e

-- ---- what is decided by a kept row

row_of_entry : Version → List Field → Times → ℕ → Request → Row
row_of_entry v fields times n head = record { version = v; fields = fields; times = times; held = is_below n (shown_span head v) }

kept_row_same : (head : Request) (kept : Kept) (e : Entry) → IsKeptAs kept e → AreKept kept.entry.fields kept.entry.times → kept_row head kept ≡ of_entry head e
unfolding row_of_entry
kept_row_same head kept e like whole =
    let fields : kept.entry.fields ≡ e.fields = sym whole ∙ ap (λ (times : Times). kept_of kept.entry.fields times) like.times ∙ sym like.fields in
    ap₂ (λ (v : Version) (times : Times). row_of_entry v kept.entry.fields times kept.extent head) like.version like.times
    ∙ ap₂ (λ (fs : List Field) (n : ℕ). row_of_entry e.version fs e.times n head) fields like.extent

row_kept : (s : State) (head : Request) (key : Bytes) (e : Entry) → row s key ≡ None → row_on_disk s key ≡ Some e → row_for s head key ≡ Some (of_entry head e)
row_kept s head key e alone is =
    ap₂ (λ (o : Option Known) (f : Option Entry). elim o as (λ t. Option Row) [ Some x ↦ Some (of_instance s head x) | None ↦ elim f as (λ t. Option Row) [ None ↦ None | Some g ↦ Some (of_entry head g) ] ]) alone is

by_kept : (p : Turn) (s : State) (seat : Seat) (c : Client) (head : Request) (key : OwnedKey) (kept : Kept) (e : Entry) → p.name.items ≡ s.settings.name → p.now ≡ s.clock → row s key.text.items ≡ None → row_on_disk s key.text.items ≡ Some e
    → kept_row head kept ≡ of_entry head e → begun_in seat.brought None ≡ begun_now s c key.text.items
    → decide_by_kept p seat key kept head ≡ decide_with s head (key_in key.text.items key.place) (row_for s head key.text.items) (begun_now s c key.text.items) s.clock
unfolding decide_with
by_kept p s seat c head key kept e names clock alone is like begun =
    let seen : Option Row = Some (kept_row head kept) in
    let d : Decision = decision head seen (begun_in seat.brought None) p.now in
    let same : seen ≡ row_for s head key.text.items = ap (λ (r : Row). Some r) like ∙ sym (row_kept s head key.text.items e alone is) in
    fits_same p s head key (kind_of head (Some kept.entry.version) d) d names
    ∙ ap (λ (k : Option AskKind). if_fits_law s head (key_in key.text.items key.place) k d) (kinds head seen d)
    ∙ ap₂ (λ (b : Begun) (n : ℕ). decide_with s head (key_in key.text.items key.place) seen b n) begun clock
    ∙ ap (λ (r : Option Row). decide_with s head (key_in key.text.items key.place) r (begun_now s c key.text.items) s.clock) same

-- by the law something is decided, and by the kept row it asks what another may have asked where that does
record IsByKept (p : Turn) (s : State) (seat : Seat) (c : Client) (key : OwnedKey) (kept : Kept) : Type 0 where
  pub d : Decision
  pub decides : decide_by_law s c ≡ Some d
  pub asks : asks_by_kept p seat key kept (current_of seat.client.heard) ≡ may_share d

asks_kept : (number : ℕ → ℕ) (l : Leaving) (peers : List Peer) (p : Turn) (s : State) (name : Bytes) (seat : Seat) (c : Client) (key : OwnedKey) (kept : Kept) (e : Entry) → ShowsTurn number l peers p s → ShowsOpen number name [] seat c → is_refused_in seat.brought ≡ false
    → refused_in seat.front ≡ None → owned_in (asked_in seat.front) ≡ Some key → row s key.text.items ≡ None → row_on_disk s key.text.items ≡ Some e → IsKeptAs kept e → AreKept kept.entry.fields kept.entry.times → IsByKept p s seat c key kept
unfolding decide_with
asks_kept number l peers p s name seat c key kept e shows live given isnt own alone is like whole =
    let one : IsByRow s c (key_in key.text.items key.place) = rows_decide s key number name [] seat c live isnt own in
    let asked : IsAskedAs (current_of seat.client.heard) one.request.head = heard_as seat.client.heard c.front c.heard one.request live.heard one.front in
    let begun : begun_in seat.brought None ≡ begun_now s c key.text.items =
    brought_counts_so s None key.text.items number name [] seat c live given (sym (ap (λ (o : Option Known). option_map (λ (x : Known). x.id) o) alone)) (λ id joined plain none brought same. absurd (none_some none)) in
    record {
      d = decide_for_law s c one.request.head (key_in key.text.items key.place);
      decides = one.decides;
      asks =
          ap (λ (h : Heading). asks_by_kept p seat key kept h) asked.is
          ∙ ap may_share (by_kept p s seat c one.request.head key kept e shows.name shows.clock alone is (kept_row_same one.request.head kept e like whole) begun
          ∙ ap (λ (text : Bytes). decide_with s one.request.head (key_in key.text.items key.place) (row_for s one.request.head text) (begun_now s c text) s.clock) key.within.spelled);
    }

-- ---- of which something is decided

decided_any : (s t : State) (c : Client) → is_some (decide_by_law s c) ≡ is_some (decide_by_law t c)
decided_any s t c = by c.front
  where
    by : (f : Front)
        → is_some (elim f as (λ x. Option Decision) [ NoHeadYet ↦ None | NoHead status ↦ Some (Refuse status) | IsRequest r ↦ Some (decide_head s c r) ])
        ≡ is_some (elim f as (λ x. Option Decision) [ NoHeadYet ↦ None | NoHead status ↦ Some (Refuse status) | IsRequest r ↦ Some (decide_head t c r) ])
    by NoHeadYet = refl
    by (NoHead status) = refl
    by (IsRequest r) = refl

and_false : (b : Bool) → (b && false) ≡ false
and_false true = refl
and_false false = refl

some_shared : (shares may asked : Bool) (d e : Decision) → (shares && asked) ≡ false → is_some (elim (shares && may && asked) as (λ t. Option Decision) [ true ↦ None | false ↦ Some d ]) ≡ true
some_shared false may asked d e not_so = refl
some_shared true may true d e not_so = absurd (cc not_so)
some_shared true true false d e not_so = refl
some_shared true false false d e not_so = refl

undecided_some : (w : Option Shared) (patient shares asked : Bool) (d e : Option Decision) → is_some d ≡ is_some e → (not (is_some w) && (shares && asked)) ≡ false → is_some (undecided_in w patient shares asked d) ≡ is_some (undecided_in w patient shares asked e)
undecided_some (Some w) true shares asked d e same not_so = refl
undecided_some (Some w) false shares asked d e same not_so = same
undecided_some None patient shares asked None None same not_so = refl
undecided_some None patient shares asked None (Some e) same not_so = absurd (cc same)
undecided_some None patient shares asked (Some d) None same not_so = absurd (cc same)
undecided_some None patient shares asked (Some d) (Some e) same not_so = some_shared shares (may_share d) asked d e not_so ∙ sym (some_shared shares (may_share e) asked e d not_so)

given_up : (course : Course) (d e : Option Decision) → is_some d ≡ is_some e → is_some (give_up_in course d) ≡ is_some (give_up_in course e)
given_up (Trying n) d e same = same
given_up OutOfTries d e same = refl
given_up AskTooLong d e same = refl

if_some : (b : Bool) (d e : Option Decision) → is_some d ≡ is_some e → is_some (elim b as (λ t. Option Decision) [ true ↦ d | false ↦ None ]) ≡ is_some (elim b as (λ t. Option Decision) [ true ↦ e | false ↦ None ])
if_some true d e same = same
if_some false d e same = refl

stage_some : (stage : SeatStage) (course : Course) (told lost : Bool) (u v d e : Option Decision) → is_some d ≡ is_some e → (is_undecided_in stage ≡ true → is_some u ≡ is_some v)
    → is_some (by_stage_in stage course told lost u d) ≡ is_some (by_stage_in stage course told lost v e)
stage_some IsUndecided course told lost u v d e same so = so refl
stage_some IsWaiting course told lost u v d e same so =
    given_up course (elim told as (λ t. Option Decision) [ true ↦ d | false ↦ None ]) (elim told as (λ t. Option Decision) [ true ↦ e | false ↦ None ]) (if_some told d e same)
stage_some IsPassing course told lost u v d e same so = refl
stage_some (IsAnswering a) course told lost u v d e same so = by a.has_begun
  where
    by : (b : Bool) → is_some (elim b as (λ t. Option Decision) [ true ↦ None | false ↦ give_up_in course (elim lost as (λ t. Option Decision) [ true ↦ d | false ↦ None ]) ])
        ≡ is_some (elim b as (λ t. Option Decision) [ true ↦ None | false ↦ give_up_in course (elim lost as (λ t. Option Decision) [ true ↦ e | false ↦ None ]) ])
    by true = refl
    by false = given_up course (elim lost as (λ t. Option Decision) [ true ↦ d | false ↦ None ]) (elim lost as (λ t. Option Decision) [ true ↦ e | false ↦ None ]) (if_some lost d e same)

decision_some : (seat : Seat) (lost : Bool) (u v d e : Option Decision) → is_some d ≡ is_some e → (is_undecided_in seat.stage ≡ true → is_some u ≡ is_some v) → is_some (decision_in seat lost u d) ≡ is_some (decision_in seat lost v e)
decision_some seat lost u v d e same so = by (is_refused_in seat.brought)
  where
    by : (b : Bool) → is_some (elim b as (λ t. Option Decision) [ true ↦ Some (Refuse 500) | false ↦ by_stage_in seat.stage seat.course (is_told_in seat.brought) lost u d ])
        ≡ is_some (elim b as (λ t. Option Decision) [ true ↦ Some (Refuse 500) | false ↦ by_stage_in seat.stage seat.course (is_told_in seat.brought) lost v e ])
    by true = refl
    by false = stage_some seat.stage seat.course (is_told_in seat.brought) lost u v d e same so

-- ---- a cut, or a decision

some_mapped : {A B : Type 0} (f : A → B) (o : Option A) → is_some (option_map f o) ≡ is_some o
some_mapped f None = refl
some_mapped f (Some x) = refl

due_some : (closing stopped : Bool) (cut : Option Cause) (d : Option Decision) (b : Bool) → b ≡ is_some d
    → (elim closing as (λ t. Bool) [ true ↦ false | false ↦ elim (is_some cut || stopped) as (λ t. Bool) [ true ↦ is_some cut | false ↦ b ] ]) ≡ is_some (due_in closing stopped cut d)
due_some true stopped cut d b same = refl
due_some false stopped (Some cause) d b same = refl
due_some false true None d b same = refl
due_some false false None d b same = same ∙ sym (some_mapped IsDecided d)

cut_any : (closing stopped : Bool) (cut : Option Cause) (d e : Option Decision) → is_some cut ≡ true → due_in closing stopped cut d ≡ due_in closing stopped cut e
cut_any true stopped cut d e some = refl
cut_any false stopped (Some cause) d e some = refl
cut_any false stopped None d e some = absurd (cc some)

cut_first : (closing stopped : Bool) (cut : Option Cause) (o : Option Decision) (d : Decision) → is_some cut ≡ true → due_in closing stopped cut o ≡ Some (IsDecided d) → ⊥
cut_first true stopped cut o d some is = none_some is
cut_first false stopped (Some cause) o d some is = cc is
cut_first false stopped None o d some is = absurd (cc some)

decided_last : (closing stopped : Bool) (cut : Option Cause) (e d : Decision) → due_in closing stopped cut (Some e) ≡ Some (IsDecided d) → d ≡ e
decided_last true stopped cut e d is = absurd (none_some is)
decided_last false stopped (Some cause) e d is = absurd (cc is)
decided_last false true None e d is = absurd (none_some is)
decided_last false false None e d is = cc is

-- ---- the key of a request

record IsPlain (front : SeatFront) (key : OwnedKey) : Type 0 where
  pub unrefused : refused_in front ≡ None
  pub owned : owned_in (asked_in front) ≡ Some key

plain_asked : (a : Asked) (key : OwnedKey) (refusal : Option ℕ) → a.refusal ≡ refusal → plain_key (Some a) ≡ Some key → IsPlain (IsThere a) key
plain_asked a key (Some status) is plain = absurd (none_some (sym (ap (λ (r : Option ℕ). elim r as (λ t. Option OwnedKey) [ Some n ↦ None | None ↦ a.key ]) is) ∙ plain))
plain_asked a key None is plain =
    let own : a.key ≡ Some key = sym (ap (λ (r : Option ℕ). elim r as (λ t. Option OwnedKey) [ Some n ↦ None | None ↦ a.key ]) is) ∙ plain in
    record { unrefused = by a.refusal a.key is own; owned = own }
  where
    by : (r : Option ℕ) (k : Option OwnedKey) → r ≡ None → k ≡ Some key → refused_in (IsThere (record a { refusal = r; key = k })) ≡ None
    by None (Some k) none own = refl
    by (Some status) k none own = absurd (none_some (sym none))
    by None None none own = absurd (none_some own)

plain_is : (front : SeatFront) (key : OwnedKey) → plain_key (asked_in front) ≡ Some key → IsPlain front key
plain_is NoneYet key plain = absurd (none_some plain)
plain_is (NoneThere status) key plain = absurd (none_some plain)
plain_is (IsThere a) key plain = plain_asked a key a.refusal refl plain

record IsRefusedFor (front : SeatFront) : Type 0 where
  pub status : ℕ
  pub is : refused_in front ≡ Some status

refused_asked : (a : Asked) (key : OwnedKey) (refusal : Option ℕ) → a.refusal ≡ refusal → plain_key (Some a) ≡ None → a.key ≡ Some key → IsRefusedFor (IsThere a)
refused_asked a key (Some status) is plain own = record { status = status; is = by a.refusal is }
  where
    by : (r : Option ℕ) → r ≡ Some status → refused_in (IsThere (record a { refusal = r })) ≡ Some status
    by (Some n) same = same
    by None same = absurd (none_some same)
refused_asked a key None is plain own = absurd (none_some (sym plain ∙ ap (λ (r : Option ℕ). elim r as (λ t. Option OwnedKey) [ Some n ↦ None | None ↦ a.key ]) is ∙ own))

refused_is : (front : SeatFront) (key : OwnedKey) → plain_key (asked_in front) ≡ None → owned_in (asked_in front) ≡ Some key → IsRefusedFor front
refused_is NoneYet key plain own = absurd (none_some own)
refused_is (NoneThere status) key plain own = absurd (none_some own)
refused_is (IsThere a) key plain own = refused_asked a key a.refusal refl plain own

-- ---- whether it may wait for what is asked already

record MayShare (u v w x : Bool) : Type 0 where
  pub undecided : u ≡ true
  pub waits : v ≡ false
  pub shares : w ≡ true
  pub asked : x ≡ true

may_by : (refused undecided waits shares asked : Bool) → (not refused && (undecided && not waits) && shares && asked) ≡ true → MayShare undecided waits shares asked
may_by false true false true true is = record { undecided = refl; waits = refl; shares = refl; asked = refl }
may_by true undecided waits shares asked is = absurd (by undecided waits shares asked is)
  where
    by : (undecided waits shares asked : Bool) → (not true && (undecided && not waits) && shares && asked) ≡ true → ⊥
    by undecided waits true true is = cc is
    by undecided waits true false is = cc is
    by undecided waits false asked is = cc is
may_by false false waits shares asked is = absurd (by shares asked is)
  where
    by : (shares asked : Bool) → (not false && (false && not waits) && shares && asked) ≡ true → ⊥
    by true true is = cc is
    by true false is = cc is
    by false asked is = cc is
may_by false true true shares asked is = absurd (by shares asked is)
  where
    by : (shares asked : Bool) → (not false && (true && not true) && shares && asked) ≡ true → ⊥
    by true true is = cc is
    by true false is = cc is
    by false asked is = cc is
may_by false true false false asked is = absurd (cc is)
may_by false true false true false is = absurd (cc is)

may_not : (undecided waits shares asked : Bool) → (not false && (undecided && not waits) && shares && asked) ≡ false → undecided ≡ true → (not waits && (shares && asked)) ≡ false
may_not true true shares asked is so = refl
may_not true false false asked is so = refl
may_not true false true false is so = refl
may_not true false true true is so = absurd (cc is)
may_not false waits shares asked is so = absurd (cc so)

none_waits : (w : Option Shared) → is_some w ≡ false → w ≡ None
none_waits None is = refl
none_waits (Some w) is = absurd (cc is)

undecided_last : (w : Option Shared) (patient shares asked : Bool) (d : Decision) → w ≡ None → shares ≡ true → asked ≡ true → is_some (undecided_in w patient shares asked (Some d)) ≡ not (may_share d)
undecided_last None patient true true d none so is = by (may_share d)
  where
    by : (m : Bool) → is_some (elim (true && m && true) as (λ t. Option Decision) [ true ↦ None | false ↦ Some d ]) ≡ not m
    by true = refl
    by false = refl
undecided_last None patient false asked d none so is = absurd (cc so)
undecided_last None patient true false d none so is = absurd (cc is)
undecided_last (Some w) patient shares asked d none so is = absurd (none_some (sym none))

undecided_stage : (stage : SeatStage) (course : Course) (told lost : Bool) (u d : Option Decision) → is_undecided_in stage ≡ true → by_stage_in stage course told lost u d ≡ u
undecided_stage IsUndecided course told lost u d is = refl
undecided_stage IsWaiting course told lost u d is = absurd (cc is)
undecided_stage IsPassing course told lost u d is = absurd (cc is)
undecided_stage (IsAnswering a) course told lost u d is = absurd (cc is)

-- ---- of a seat

module _ (number : ℕ → ℕ) (l : Leaving) (peers : List Peer) (shelf : KeptMap) (p : Turn) (s : State) (i : ℕ) (seat : Seat) (c : Client) (shows : ShowsDisk number l peers shelf p s) (at : slice_get p.seats.items i ≡ Some seat) (seen : ShowsSeat number p.name.items [] seat c)
    (entries : AreAsKept shelf) where
  table : ShowsTable number p.cache s
  table = shows.turn.steps.shows.table.table

  ready_to : c.is_closing ≡ false → IsReady number p.cache s.next_instance seat
  ready_to going = shows.ready i seat at (seen.closing ∙ going)

  follows_to : c.is_closing ≡ false → IsFollowing p.cache seat
  follows_to going = let one : IsReady number p.cache s.next_instance seat = ready_to going in one.follows

  -- as the law has it
  abbrev its : State → Option Decision
  its t = decision_in seat (has_lost_its_row t c) (undecided_by_law t c) (decide_by_law t c)

  abbrev in_share : Bool
  in_share = may_share_first p seat

  -- by what is in memory
  skips : in_share ≡ false → is_to_decide shelf p seat ≡ has_decision p seat
  skips is = ap (λ (b : Bool). elim b as (λ t. Bool) [ true ↦ decides_by_key shelf p seat (plain_key (asked_in seat.front)) | false ↦ has_decision p seat ]) is

  by_key : in_share ≡ true → is_to_decide shelf p seat ≡ decides_by_key shelf p seat (plain_key (asked_in seat.front))
  by_key is = ap (λ (b : Bool). elim b as (λ t. Bool) [ true ↦ decides_by_key shelf p seat (plain_key (asked_in seat.front)) | false ↦ has_decision p seat ]) is

  in_memory : ((key : OwnedKey) → owned_in (asked_in seat.front) ≡ Some key → kept_in_turn key.text.items shelf p.cache ≡ None) → is_to_decide shelf p seat ≡ has_decision p seat
  in_memory none = by in_share refl (plain_key (asked_in seat.front)) refl
    where
      by : (b : Bool) → in_share ≡ b → (o : Option OwnedKey) → plain_key (asked_in seat.front) ≡ o → is_to_decide shelf p seat ≡ has_decision p seat
      by false is o plain = skips is
      by true is None plain = by_key is ∙ ap (λ (o : Option OwnedKey). decides_by_key shelf p seat o) plain
      by true is (Some key) plain =
          let one : IsPlain seat.front key = plain_is seat.front key plain in
          by_key is ∙ ap (λ (o : Option OwnedKey). decides_by_key shelf p seat o) plain ∙ ap (λ (o : Option Kept). decides_by_row p seat key o) (none key one.owned)

  -- memory was refused for the row that it waits for
  refused_too : is_refused_in seat.brought ≡ true → is_to_decide shelf p seat ≡ is_some (its s)
  refused_too is =
      skips (by (is_refused_in seat.brought) is)
      ∙ ap (λ (o : Option Decision). is_some o)
      (refused_any seat (lost_in (answer_in seat.stage) (has_source_standing p seat)) (has_lost_its_row s c) (due_undecided p seat) (undecided_by_law s c) (decide p seat) (decide_by_law s c) is)
    where
      by : (b : Bool) → b ≡ true → (not b && (is_undecided_in seat.stage && not (is_some seat.waits_on)) && p.shares_fetches && is_some (shared_ask seat p.flow)) ≡ false
      by true so = and_rest p.shares_fetches (is_some (shared_ask seat p.flow))
        where
          and_rest : (shares asked : Bool) → (not true && (is_undecided_in seat.stage && not (is_some seat.waits_on)) && shares && asked) ≡ false
          and_rest true true = refl
          and_rest true false = refl
          and_rest false asked = refl
      by false so = absurd (cc so)

  module _ (going : c.is_closing ≡ false) (given : is_refused_in seat.brought ≡ false) where
    live : ShowsOpen number p.name.items [] seat c
    live = seen.going going

    ready : IsReady number p.cache s.next_instance seat
    ready = ready_to going

    -- a row is in memory, or none is kept
    known_too : ((key : OwnedKey) → owned_in (asked_in seat.front) ≡ Some key → kept_in_turn key.text.items shelf p.cache ≡ None)
        → ((key : OwnedKey) → owned_in (asked_in seat.front) ≡ Some key → row s key.text.items ≡ None → row_on_disk s key.text.items ≡ None) → is_to_decide shelf p seat ≡ is_some (its s)
    known_too none kept =
        in_memory none
        ∙ ap (λ (o : Option Decision). is_some o)
        (decision_same number l peers p s p.name.items seat c (is_refused_in seat.brought) refl shows.turn seen going (follows_to going) (λ isnt. decidable number p s s seat c table ready isnt kept))

    -- it is on the disk alone
    module _ (key : OwnedKey) (kept : Kept) (e : Entry) (own : owned_in (asked_in seat.front) ≡ Some key) (alone : row s key.text.items ≡ None) (disk : row_on_disk s key.text.items ≡ Some e) (here : kept_in_turn key.text.items shelf p.cache ≡ Some kept) (like : IsKeptAs kept e) where
      abbrev unknown : State
      unknown = hidden key.text.items s

      nothing : (other : OwnedKey) → owned_in (asked_in seat.front) ≡ Some other → row_on_disk unknown other.text.items ≡ None
      nothing other is = subst (λ (k : OwnedKey). row_on_disk unknown k.text.items ≡ None) (same_some (sym own ∙ is)) (none_hidden key.text.items s)

      -- by what is in memory it is decided as if nothing were kept
      without : has_decision p seat ≡ is_some (its unknown)
      without =
          ap (λ (o : Option Decision). is_some o)
          (decision_same number l peers p unknown p.name.items seat c (is_refused_in seat.brought) refl (turn_hidden number l peers p s key.text.items shows.turn) seen going (follows_to going)
          (λ isnt. decidable number p s unknown seat c table ready isnt (λ other is none. nothing other is)))

      shared : shared_ask seat p.flow ≡ shared_by_law s c
      shared = shared_same number l peers p s p.name.items seat c shows.turn live.front ready.key

      as_shared : (t : State) → undecided_in seat.waits_on (waits_on_still t seat.waits_on) t.settings.shares_fetches (is_some (shared_by_law t c)) (decide_by_law t c) ≡ undecided_by_law t c
      as_shared t = sharing t number p.name.items [] seat c live

      unshared : in_share ≡ false → is_undecided_in seat.stage ≡ true → (not (is_some seat.waits_on) && (s.settings.shares_fetches && is_some (shared_by_law s c))) ≡ false
      unshared is so =
          sym (ap₂ (λ (shares : Bool) (asked : Option ℕ). not (is_some seat.waits_on) && (shares && is_some asked)) shows.turn.shares shared)
          ∙ may_not (is_undecided_in seat.stage) (is_some seat.waits_on) p.shares_fetches (is_some (shared_ask seat p.flow))
          (sym (ap (λ (b : Bool). not b && (is_undecided_in seat.stage && not (is_some seat.waits_on)) && p.shares_fetches && is_some (shared_ask seat p.flow)) given) ∙ is) so

      unshared_too : in_share ≡ false → is_some (its unknown) ≡ is_some (its s)
      unfolding hidden
      unshared_too is =
          decision_some seat (has_lost_its_row s c) (undecided_by_law unknown c) (undecided_by_law s c) (decide_by_law unknown c) (decide_by_law s c) (decided_any unknown s c)
          (λ so. sym (ap (λ (o : Option Decision). is_some o) (as_shared unknown))
          ∙ undecided_some seat.waits_on (waits_on_still s seat.waits_on) s.settings.shares_fetches (is_some (shared_by_law s c)) (decide_by_law unknown c) (decide_by_law s c) (decided_any unknown s c) (unshared is so)
          ∙ ap (λ (o : Option Decision). is_some o) (as_shared s))

      -- it is refused for itself
      refusal_too : IsRefusedFor seat.front → is_some (its unknown) ≡ is_some (its s)
      unfolding hidden
      refusal_too one =
          let same : decide_by_law unknown c ≡ decide_by_law s c = refused_by unknown ∙ sym (refused_by s) in
          ap₂ (λ (u d : Option Decision). is_some (decision_in seat (has_lost_its_row s c) u d))
          (sym (as_shared unknown) ∙ ap (λ (d : Option Decision). undecided_in seat.waits_on (waits_on_still s seat.waits_on) s.settings.shares_fetches (is_some (shared_by_law s c)) d) same ∙ as_shared s) same
        where
          refused_by : (t : State) → decide_by_law t c ≡ Some (Refuse one.status)
          refused_by t = by (heads t one.status number p.name.items [] seat c live one.is)
            where
              by : (one.status ≡ 500) ⊎ (decide_by_law t c ≡ Some (Refuse one.status)) → decide_by_law t c ≡ Some (Refuse one.status)
              by (inl memory) = absurd (ready.key (one.is ∙ ap (λ (n : ℕ). Some n) memory))
              by (inr is) = is

      -- it may wait for what is asked already
      shared_too : in_share ≡ true → plain_key (asked_in seat.front) ≡ Some key → is_to_decide shelf p seat ≡ is_some (its s)
      shared_too is plain =
          let may : MayShare (is_undecided_in seat.stage) (is_some seat.waits_on) p.shares_fetches (is_some (shared_ask seat p.flow)) =
          may_by (is_refused_in seat.brought) (is_undecided_in seat.stage) (is_some seat.waits_on) p.shares_fetches (is_some (shared_ask seat p.flow)) is in
          let front : IsPlain seat.front key = plain_is seat.front key plain in
          let one : IsByKept p s seat c key kept = asks_kept number l peers p s p.name.items seat c key kept e shows.turn live given front.unrefused own alone disk like (entries key.text.items kept here_kept) in
          by_key is ∙ ap (λ (o : Option OwnedKey). decides_by_key shelf p seat o) plain ∙ ap (λ (o : Option Kept). decides_by_row p seat key o) here ∙ ap not one.asks
          ∙ sym (undecided_last seat.waits_on (waits_on_still s seat.waits_on) s.settings.shares_fetches (is_some (shared_by_law s c)) one.d (none_waits seat.waits_on may.waits) (sym shows.turn.shares ∙ may.shares) (sym (ap (λ (o : Option ℕ). is_some o) shared) ∙ may.asked))
          ∙ ap (λ (d : Option Decision). is_some (undecided_in seat.waits_on (waits_on_still s seat.waits_on) s.settings.shares_fetches (is_some (shared_by_law s c)) d)) (sym one.decides)
          ∙ ap (λ (o : Option Decision). is_some o) (as_shared s)
          ∙ sym (ap (λ (o : Option Decision). is_some o) (undecided_stage seat.stage seat.course (is_told_in seat.brought) (has_lost_its_row s c) (undecided_by_law s c) (decide_by_law s c) may.undecided))
          ∙ sym (ap (λ (b : Bool). is_some (elim b as (λ t. Option Decision) [ true ↦ Some (Refuse 500) | false ↦ by_stage_in seat.stage seat.course (is_told_in seat.brought) (has_lost_its_row s c) (undecided_by_law s c) (decide_by_law s c) ])) given)
        where
          kept_by : (o : Option Instance) (b : Bool) → (elim (is_some o || b) as (λ t. Option Kept) [ true ↦ None | false ↦ kept_in_store key.text.items shelf ]) ≡ Some kept → kept_in_store key.text.items shelf ≡ Some kept
          kept_by None false is = is
          kept_by None true is = absurd (none_some is)
          kept_by (Some x) b is = absurd (none_some is)

          here_kept : kept_in_store key.text.items shelf ≡ Some kept
          here_kept = kept_by (row_of key.text.items p.cache.instances) (list_any (bytes_eq (name_of key.text.items)) p.cache.outdated) here

      kept_too : is_to_decide shelf p seat ≡ is_some (its s)
      kept_too = by in_share refl (plain_key (asked_in seat.front)) refl
        where
          by : (b : Bool) → in_share ≡ b → (o : Option OwnedKey) → plain_key (asked_in seat.front) ≡ o → is_to_decide shelf p seat ≡ is_some (its s)
          by false is o plain = skips is ∙ without ∙ unshared_too is
          by true is None plain = by_key is ∙ ap (λ (o : Option OwnedKey). decides_by_key shelf p seat o) plain ∙ without ∙ refusal_too (refused_is seat.front key plain own)
          by true is (Some other) plain =
              let front : IsPlain seat.front other = plain_is seat.front other plain in
              shared_too is (plain ∙ sym front.owned ∙ own)

    unkept_by : (o : Option Kept) → AreBoth IsKeptAs o None → o ≡ None
    unkept_by None both = refl
    unkept_by (Some kept) both = absurd both

    known_kept : (key : OwnedKey) (o : Option Instance) (q : Option Known) → row_of key.text.items p.cache.instances ≡ o → row s key.text.items ≡ q → AreBoth (ShowsInstance number p.cache s) o q → is_some q ≡ true → kept_in_turn key.text.items shelf p.cache ≡ None
    known_kept key None None is there both some = absurd (cc some)
    known_kept key None (Some x) is there both some = absurd both
    known_kept key (Some i) None is there both some = absurd both
    known_kept key (Some i) (Some x) is there both some =
        ap (λ (o : Option Instance). elim (is_some o || list_any (bytes_eq (name_of key.text.items)) p.cache.outdated) as (λ t. Option Kept) [ true ↦ None | false ↦ kept_in_store key.text.items shelf ]) is

    of_key : (key : OwnedKey) → owned_in (asked_in seat.front) ≡ Some key → is_to_decide shelf p seat ≡ is_some (its s)
    of_key key own = by (row s key.text.items) (row_on_disk s key.text.items) refl refl
      where
        same_key : (P : OwnedKey → Type 0) → P key → (other : OwnedKey) → owned_in (asked_in seat.front) ≡ Some other → P other
        same_key P one other is = subst P (same_some (sym own ∙ is)) one

        by_memory : (kept : Option Kept) (e : Entry) → kept_in_turn key.text.items shelf p.cache ≡ kept → AreBoth IsKeptAs kept (Some e) → row s key.text.items ≡ None → row_on_disk s key.text.items ≡ Some e → is_to_decide shelf p seat ≡ is_some (its s)
        by_memory None e here both alone disk = absurd both
        by_memory (Some kept) e here both alone disk = kept_too key kept e own alone disk here both

        by : (q : Option Known) (f : Option Entry) → row s key.text.items ≡ q → row_on_disk s key.text.items ≡ f → is_to_decide shelf p seat ≡ is_some (its s)
        by (Some x) f there disk =
            known_too
            (same_key (λ k. kept_in_turn k.text.items shelf p.cache ≡ None) (known_kept key (row_of key.text.items p.cache.instances) (Some x) refl there (subst (λ (q : Option Known). AreBoth (ShowsInstance number p.cache s) (row_of key.text.items p.cache.instances) q) there (rows_of number p.cache s table key.text.items)) refl))
            (same_key (λ k. row s k.text.items ≡ None → row_on_disk s k.text.items ≡ None) (λ none. absurd (none_some (sym none ∙ there))))
        by None None there disk =
            known_too
            (same_key (λ k. kept_in_turn k.text.items shelf p.cache ≡ None) (unkept_by (kept_in_turn key.text.items shelf p.cache) (subst (λ (f : Option Entry). AreBoth IsKeptAs (kept_in_turn key.text.items shelf p.cache) f) disk (shows.kept key.text.items there))))
            (same_key (λ k. row s k.text.items ≡ None → row_on_disk s k.text.items ≡ None) (λ none. disk))
        by None (Some e) there disk =
            by_memory (kept_in_turn key.text.items shelf p.cache) e refl (subst (λ (f : Option Entry). AreBoth IsKeptAs (kept_in_turn key.text.items shelf p.cache) f) disk (shows.kept key.text.items there)) there disk

    to_decide : is_to_decide shelf p seat ≡ is_some (its s)
    to_decide = by (owned_in (asked_in seat.front)) refl
      where
        by : (o : Option OwnedKey) → owned_in (asked_in seat.front) ≡ o → is_to_decide shelf p seat ≡ is_some (its s)
        by (Some key) own = of_key key own
        by None own = known_too (λ key is. absurd (none_some (sym own ∙ is))) (λ key is. absurd (none_some (sym own ∙ is)))

  decides : c.is_closing ≡ false → is_to_decide shelf p seat ≡ is_some (its s)
  decides going = by (is_refused_in seat.brought) refl
    where
      by : (b : Bool) → is_refused_in seat.brought ≡ b → is_to_decide shelf p seat ≡ is_some (its s)
      by true is = refused_too is
      by false is = to_decide going is

  pub is_due : is_due_to shelf p seat ≡ is_some (due_by_law s c)
  is_due = by c.is_closing refl
    where
      by : (b : Bool) → c.is_closing ≡ b → is_due_to shelf p seat ≡ is_some (due_by_law s c)
      by true is =
          ap (λ (b : Bool). elim b as (λ t. Bool) [ true ↦ false | false ↦ elim (is_some (cut_of p seat) || p.is_stopped) as (λ t. Bool) [ true ↦ is_some (cut_of p seat) | false ↦ is_to_decide shelf p seat ] ]) (seen.closing ∙ is)
          ∙ sym (ap (λ o. is_some o) (closed s c is))
      by false is =
          due_some seat.is_closing p.is_stopped (cut_of p seat) (its s) (is_to_decide shelf p seat) (decides is)
          ∙ ap₂ (λ (stopped : Bool) (cut : Option Cause). is_some (due_in seat.is_closing stopped cut (its s))) shows.turn.stopped (cut_same number l peers p s p.name.items seat c shows.turn seen is (follows_to is))
          ∙ sym (some_mapped (due_as seat.client.id seat.index) (due_in seat.is_closing s.is_stopped (cut_by_law s seat c) (its s)))
          ∙ ap (λ o. is_some o) (dues number s p.name.items seat c seen)

  -- ---- where no row comes in

  pub due_unentered : is_to_enter p seat ≡ false → option_map (due_as seat.client.id seat.index) (due_of p seat) ≡ due_by_law s c
  due_unentered isnt = by c.is_closing refl (is_some (cut_of p seat)) refl
    where
      true_false : true ≡ false → ⊥
      true_false e = cc e

      by : (b : Bool) → c.is_closing ≡ b → (u : Bool) → is_some (cut_of p seat) ≡ u → option_map (due_as seat.client.id seat.index) (due_of p seat) ≡ due_by_law s c
      by true is u cut = all_dues number l peers p s p.name.items seat c shows.turn seen follows_to (λ going given. absurd (true_false (sym is ∙ going)))
      by false is true cut =
          ap (λ (o : Option SeatDue). option_map (due_as seat.client.id seat.index) o)
          (cut_any seat.is_closing p.is_stopped (cut_of p seat) (decision_of p seat) (its s) cut
          ∙ ap₂ (λ (stopped : Bool) (u : Option Cause). due_in seat.is_closing stopped u (its s)) shows.turn.stopped (cut_same number l peers p s p.name.items seat c shows.turn seen is (follows_to is)))
          ∙ dues number s p.name.items seat c seen
      by false is false cut =
          all_dues number l peers p s p.name.items seat c shows.turn seen follows_to
          (λ going given. absurd (true_false (sym (ap₂ (λ (u v : Bool). not u && not v) cut given) ∙ isnt)))

  pub none_unentered : is_to_enter p seat ≡ false → (d : Decision) → due_of p seat ≡ Some (IsDecided d) → is_for_memory d ≡ false → ⊥
  none_unentered isnt d is more = by (is_some (cut_of p seat)) refl (is_refused_in seat.brought) refl
    where
      true_false : true ≡ false → ⊥
      true_false e = cc e

      by : (u : Bool) → is_some (cut_of p seat) ≡ u → (v : Bool) → is_refused_in seat.brought ≡ v → ⊥
      by true cut v given = cut_first seat.is_closing p.is_stopped (cut_of p seat) (decision_of p seat) d cut is
      by false cut false given = true_false (sym (ap₂ (λ (u v : Bool). not u && not v) cut given) ∙ isnt)
      by false cut true given =
          let memory : decision_of p seat ≡ Some (Refuse 500) =
          ap (λ (b : Bool). elim b as (λ t. Option Decision) [
            | true ↦ Some (Refuse 500)
            | false ↦ by_stage_in seat.stage seat.course (is_told_in seat.brought) (lost_in (answer_in seat.stage) (has_source_standing p seat)) (due_undecided p seat) (decide p seat)
          ]) given in
          let same : d ≡ Refuse 500 = decided_last seat.is_closing p.is_stopped (cut_of p seat) (Refuse 500) d (sym (ap (λ (o : Option Decision). due_in seat.is_closing p.is_stopped (cut_of p seat) o) memory) ∙ is) in
          true_false (sym (ap is_for_memory same) ∙ more)
