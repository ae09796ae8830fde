-- Where an origin is read, each instance to which bytes come is noted: one for each response that is whole, and the last.
use Rattle.std.proofs.Common.{◌≡◌, ◌≤◌, ◌⊎◌, inl, inr, refl, sym, subst, ap, ◌∙◌, ℕ, zero, suc, ◌+◌, ◌==◌, Bool, true, false, ◌&&◌, not, nat_le, nat_lt, cond, filter, find, is_some, length, take, drop, List, [], ◌∷◌, Option, Some, None, option_and_then, Ok, Err, arith}
use Rattle.std.proofs.lemmas.Bool.Decides.{nat_tests}
use Rattle.std.specs.Prelude.{count_by, slice_get}
use Rattle.pp_answers.specs.FinalHeads.{answer_to, roomed, roomed_by, roomed_for, version_in}
use Rattle.pp_answers.specs.Rows.{with_room_for}
use Rattle.pp_cache.specs.Memory.{Memory, extent_of}
use Rattle.pp_cache_law.proofs.Finds.{found_counted}
use Rattle.pp_cache_law.proofs.PairLemmas.{count_first}
use Rattle.pp_desk.specs.Calls.{Found}
use Rattle.pp_desk.specs.Closings.{Sides, with_parts}
use Rattle.pp_due.specs.Entering.{HasRowFor, MayCome, with_room_if_over}
use Rattle.pp_due.specs.OnDisk.{kept_alone}
use Rattle.pp_flow.specs.Changes.{Exchanges, entry_of, first_of, is_on, line_of, numbers, without}
use Rattle.pp_flow.specs.Entries.{Span, is_number, moved_by}
use Rattle.pp_flow.specs.declared.entry.Aim.{Aim}
use Rattle.pp_flow.specs.declared.entry.Aim.TheVariants.{Own, Hole, Pass as Through}
use Rattle.pp_flow.specs.declared.entry.Entry.{Entry}
use Rattle.pp_flow.specs.declared.entry.Exchange.{Exchange}
use Rattle.pp_framing.specs.declared.body.BodyRule.{BodyRule}
use Rattle.pp_head.specs.Response.{Response}
use Rattle.pp_law.specs.Lists.{Bytes}
use Rattle.pp_objects.specs.Instances.{Instance, is_row}
use Rattle.pp_objects.specs.declared.id.ObjectId.{ObjectId}
use Rattle.pp_origins.specs.Gots.{Both, DataCame, DataCameThen, Delivers, DeliversTo, EndsBehind, GoesOnBehind, GotFrom, HeadCameFor, IsReceived, IsStepOn, IsTaken, Makes, Remains, TakesStep, going_on, head_on, left_behind, remaining, sides_of}
use Rattle.pp_origins.specs.Responses.{bad_answer, bad_by, bad_for, bad_on, bad_response, brought_by, charged_by, finished, goes_on_by, has_brought_in, origin_gone, response_whole, whole_for}
use Rattle.pp_peers.specs.Peers.{is_number as is_peer}
use Rattle.pp_peers.specs.declared.peers.Peer.{Peer}
use Rattle.pp_pipe.specs.declared.step.Step.{Step}
use Rattle.pp_pipe.specs.declared.step.Step.TheVariants.{Head, Body, End, Bad, Idle}
use Rattle.pp_state.specs.Asking.{is_outstanding}
use Rattle.pp_state.specs.Astray.{gone_astray, gone_astray_where}
use Rattle.pp_state.specs.Bodies.{HasJoined, IsButForCells, delivered_for, joined_by, joined_within, left_for, on_disk, with_dropped_in}
use Rattle.pp_state.specs.Ends.{Parts, ended, exchange_at, failed, parts}
use Rattle.pp_state.specs.Keys.{key_of}
use Rattle.pp_state.specs.Known.{row_for}
use Rattle.pp_state.specs.Lines.{first_on}
use Rattle.pp_state.specs.Pins.{forgotten_row, idle_row, with_room}
use Rattle.pp_state.specs.Unseen.{drops_in, dropped_more, with_dropped}
use Rattle.pp_state.specs.declared.state.State.{State as Turn}
use Rattle.pp_store.specs.Kept.{KeptMap}
use Rattle.pp_valid.specs.declared.version.Version.{Version}
use Rattle.pp_world.specs.declared.event.Got.TheVariants.{Bytes as Some_bytes, End as Ended, NotYet}
use Rattle.pp_grown_law.proofs.Amid.{Grows, HasGrownBy, bytes_grow, grows_less, still_grows}
use Rattle.pp_grown_law.proofs.Answered.{Comes, answers_come, comes_of, room_goes}
use Rattle.pp_grown_law.proofs.Numbers.{Flows, Rise, flows_changed, flows_errand, flows_same, found_number}
use Rattle.pp_grown_law.proofs.Owners.{Less, brought_less, brought_size}
use Rattle.pp_grown_law.proofs.Passing.{Goes, ended_goes, failed_goes, goes_none, goes_same, goes_then, lost_goes}
use Rattle.pp_grown_law.proofs.Shut.{conn_goes, replies_go}
use Rattle.pp_grown_law.proofs.Wired.{gone_goes, unless_goes, whole_goes}

-- ---- of a line

-- the first of a line is there
in_line : (k n : ℕ) (es : List Entry) → slice_get (line_of k es) 0 ≡ Some n → find (is_number n) es ≡ None → ⊥
in_line k n [] first none = cc first
in_line k n (e ∷ es) first none = by (is_on k e) refl (is_number n e) refl first none (λ at f. in_line k n es at f)
  where
    by : (a : Bool) → is_on k e ≡ a → (b : Bool) → is_number n e ≡ b → slice_get (numbers (cond a (e ∷ filter (is_on k) es) (filter (is_on k) es))) 0 ≡ Some n → cond b (Some e) (find (is_number n) es) ≡ None
        → (slice_get (line_of k es) 0 ≡ Some n → find (is_number n) es ≡ None → ⊥) → ⊥
    by a on true is at f rest = absurd (cc f)
    by true on false isnt at f rest =
        let same : e.exchange.number ≡ n = cc at in
        absurd (let both : true ≡ false = sym (let one : (e.exchange.number == n) ≡ true = grind (arith, nat_tests, same) in one) ∙ isnt in cc both)
    by false on false isnt at f rest = rest at f

counted : (n : ℕ) (es : List Entry) (o : Option Entry) → find (is_number n) es ≡ o → (o ≡ None → ⊥) → 1 ≤ count_by (is_number n) es
counted n es None found some = absurd (some refl)
counted n es (Some e) found some = found_counted (is_number n) es e found

-- it is out of its line
first_out : (k n : ℕ) (es : List Entry) → slice_get (line_of k es) 0 ≡ Some n → count_by (is_number n) es ≤ 1 → length (line_of k (without n es)) + 1 ≤ length (line_of k es)
first_out k n [] first once = absurd (cc first)
first_out k n (e ∷ es) first once = by (is_on k e) refl (is_number n e) refl first (λ at. first_out k n es at)
  where
    by : (a : Bool) → is_on k e ≡ a → (b : Bool) → is_number n e ≡ b → slice_get (numbers (cond a (e ∷ filter (is_on k) es) (filter (is_on k) es))) 0 ≡ Some n
        → (slice_get (line_of k es) 0 ≡ Some n → count_by (is_number n) es ≤ 1 → length (line_of k (without n es)) + 1 ≤ length (line_of k es))
        → length (line_of k (cond b es (e ∷ without n es))) + 1 ≤ length (numbers (cond a (e ∷ filter (is_on k) es) (filter (is_on k) es)))
    by true on true is at rest = omega arith
    by false on true is at rest =
        let more : 1 ≤ count_by (is_number n) es = counted n es (find (is_number n) es) refl (λ none. in_line k n es at none) in
        absurd (omega (arith, once, more, count_first (is_number n) e es ∙ ap (λ (b : Bool). cond b 1 0 + count_by (is_number n) es) is))
    by true on false isnt at rest =
        let same : e.exchange.number ≡ n = cc at in
        absurd (let both : true ≡ false = sym (let one : (e.exchange.number == n) ≡ true = grind (arith, nat_tests, same) in one) ∙ isnt in cc both)
    by false on false isnt at rest =
        subst (λ (b : Bool). length (numbers (cond b (e ∷ filter (is_on k) (without n es)) (filter (is_on k) (without n es)))) + 1 ≤ length (line_of k es)) (sym on)
        (rest at (omega (arith, once, count_first (is_number n) e es ∙ ap (λ (b : Bool). cond b 1 0 + count_by (is_number n) es) isnt)))

no_line : (k : ℕ) (es : List Entry) → slice_get (line_of k es) 0 ≡ None → length (line_of k es) ≡ 0
no_line k es none = by (line_of k es) none
  where
    by : (ns : List ℕ) → slice_get ns 0 ≡ None → length ns ≡ 0
    by [] is = refl
    by (n ∷ ns) is = absurd (cc is)

some_line : (k n : ℕ) (es : List Entry) → slice_get (line_of k es) 0 ≡ Some n → 1 ≤ length (line_of k es)
some_line k n es first = by (line_of k es) first
  where
    by : (ns : List ℕ) → slice_get ns 0 ≡ Some n → 1 ≤ length ns
    by [] is = absurd (cc is)
    by (m ∷ ns) is = omega arith

-- ---- what is no response

pub bad_goes : (k : ℕ) (x : Sides) → Goes x.parts (bad_response k x).parts
bad_goes k x = by (first_on k x.parts)
  where
    charged : (b : Bool) (n : ℕ) (e : Exchange) → Goes x.parts (charged_by b n e x.parts)
    charged true n e = lost_goes e x.parts
    charged false n e = let q : Parts = failed e x.parts in goes_then x.parts q (ended n q) (failed_goes e x.parts) (ended_goes n q)

    answer : (n : ℕ) (e : Exchange) → Goes x.parts (bad_answer k n e x).parts
    answer n e =
        let b : Bool = not e.headed && has_brought_in (find (is_peer k) x.peers) in
        goes_then x.parts (charged_by b n e x.parts) (bad_answer k n e x).parts (charged b n e) (conn_goes k false (with_parts (charged_by b n e) x))

    whether : (b : Bool) (n : ℕ) (e : Exchange) → Goes x.parts (bad_by b k n e x).parts
    whether true n e = answer n e
    whether false n e = conn_goes k true x

    at : (n : ℕ) (o : Option Entry) → Goes x.parts (bad_for k n o x).parts
    at n None = conn_goes k false x
    at n (Some e) = whether (is_outstanding e) n e.exchange

    by : (o : Option ℕ) → Goes x.parts (bad_on k o x).parts
    by None = conn_goes k false x
    by (Some n) = at n (entry_of n x.parts.flow)

-- ---- numbers

le_two : (a b c : ℕ) → a ≤ b → b ≤ c → a ≤ c
le_two a b c one two = omega (arith, one, two)

more_room : (a b c d : ℕ) → b ≤ a + 1 → d ≤ c → a + c ≤ 15 → b + d ≤ 16
more_room a b c d one two room = omega (arith, one, two, room)

few_room : (a b c : ℕ) → b ≤ a + 1 → 1 ≤ c → a + c ≤ 15 → b ≤ 15
few_room a b c one some room = omega (arith, one, some, room)

under_room : (a c : ℕ) → a + c ≤ 15 → a ≤ 15
under_room a c room = omega (arith, room)

-- ---- its response is whole, and it is out of its line

whole_less : (k n : ℕ) (x : Sides) → first_on k x.parts ≡ Some n → Rise x.parts.flow → length (line_of k (response_whole k x).parts.flow.placed) + 1 ≤ length (line_of k x.parts.flow.placed)
whole_less k n x first rise =
    subst (λ (o : Option ℕ). length (line_of k (whole_for k (option_and_then (λ number. entry_of number x.parts.flow) o) x).parts.flow.placed) + 1 ≤ length (line_of k x.parts.flow.placed)) (sym first) (by (entry_of n x.parts.flow) refl)
  where
    once : count_by (is_number n) x.parts.flow.placed ≤ 1
    once = omega (arith, rise.once n)

    number_of : (a b : Option Entry) (e : Entry) → find (is_number n) x.parts.flow.waiting ≡ a → find (is_number n) x.parts.flow.placed ≡ b → first_of a b ≡ Some e → e.exchange.number ≡ n
    number_of None b e one two is = found_number n x.parts.flow.placed e (two ∙ is)
    number_of (Some y) b e one two is = found_number n x.parts.flow.waiting e (one ∙ is)

    none_of : (a b : Option Entry) → find (is_number n) x.parts.flow.placed ≡ b → first_of a b ≡ None → find (is_number n) x.parts.flow.placed ≡ None
    none_of None b two is = two ∙ is
    none_of (Some y) b two is = absurd (cc is)

    out : (e : Entry) → e.exchange.number ≡ n → length (line_of k (without e.exchange.number x.parts.flow.placed)) + 1 ≤ length (line_of k x.parts.flow.placed)
    out e its = subst (λ (i : ℕ). length (line_of k (without i x.parts.flow.placed)) + 1 ≤ length (line_of k x.parts.flow.placed)) (sym its) (first_out k n x.parts.flow.placed first once)

    by : (o : Option Entry) → entry_of n x.parts.flow ≡ o → length (line_of k (whole_for k o x).parts.flow.placed) + 1 ≤ length (line_of k x.parts.flow.placed)
    by None at = absurd (in_line k n x.parts.flow.placed first (none_of (find (is_number n) x.parts.flow.waiting) (find (is_number n) x.parts.flow.placed) refl at))
    by (Some e) at =
        let y : Sides = with_parts (finished e.exchange) x in
        let z : Sides = record y { peers = brought_by k (find (is_peer k) y.peers) y.peers } in
        let goes : Goes z.parts (whole_for k (Some e) x).parts = unless_goes (goes_on_by (find (is_peer k) y.peers) e.errand.body_left e.errand.binds_connection) k z in
        le_less _ _ _ (goes.flow.lines k) (out e (number_of (find (is_number n) x.parts.flow.waiting) (find (is_number n) x.parts.flow.placed) e refl refl at))
      where
        le_less : (a b c : ℕ) → a ≤ b → b + 1 ≤ c → a + 1 ≤ c
        le_less a b c one two = omega (arith, one, two)

-- ---- what is dropped is counted

pub dropped_flows : (n count : ℕ) (f : Exchanges) → Flows f (with_dropped n count f)
dropped_flows n count f = by (entry_of n f)
  where
    by : (o : Option Entry) → Flows f (drops_in o n count f)
    by None = flows_same f f refl
    by (Some e) = flows_errand n (record e.errand { body = dropped_more count e.errand.body }) f

-- ---- with room for a row

pub over_goes : (s : Turn) → Goes (parts s) (parts (with_room_if_over s))
over_goes s = by (nat_lt 1024 (count_by is_row s.cache.instances))
  where
    by : (b : Bool) → Goes (parts s) (parts (elim b as (λ t. Turn) [ true ↦ with_room s | false ↦ s ]))
    by true = room_goes s
    by false = goes_none (parts s)

room_run : (s : Turn) → (with_room s).run ≡ s.run
room_run s = by (nat_le 1024 (count_by is_row s.cache.instances))
  where
    row : (o : Option Instance) → (forgotten_row o s).run ≡ s.run
    row None = refl
    row (Some i) = refl

    by : (b : Bool) → (elim b as (λ t. Turn) [ true ↦ forgotten_row (idle_row s) s | false ↦ s ]).run ≡ s.run
    by true = row (idle_row s)
    by false = refl

over_run : (s : Turn) → (with_room_if_over s).run ≡ s.run
over_run s = by (nat_lt 1024 (count_by is_row s.cache.instances))
  where
    by : (b : Bool) → (elim b as (λ t. Turn) [ true ↦ with_room s | false ↦ s ]).run ≡ s.run
    by true = room_run s
    by false = refl

roomed_run : (head : Response) (o : Option (Entry × BodyRule)) (s : Turn) → (roomed_by head o s).run ≡ s.run
roomed_run head None s = refl
roomed_run head (Some a) s = by a.0.exchange.aim
  where
    row : (o : Option (ObjectId × Version)) → (with_room_for o s).run ≡ s.run
    row None = room_run s
    row (Some seen) = refl

    version : (o : Option Version) → (roomed o a.0.exchange.number s).run ≡ s.run
    version None = refl
    version (Some v) = row (row_for a.0.exchange.number (parts s))

    by : (aim : Aim) → (roomed_for aim a.0.errand head a.0.exchange.number s).run ≡ s.run
    by Own = version (version_in a.0.errand head)
    by (Hole v from to) = version (version_in a.0.errand head)
    by Through = refl

-- ---- amid a read

-- so many instances are noted, and so many exchanges may bring more
pub record IsAmid (m : Memory) (run k most : ℕ) (s : Turn) : Type 0 where
  pub run_is : s.run ≡ run
  pub grows : Grows m s.cache
  pub rise : Rise s.flow
  pub room : length s.cache.grown + length (line_of k s.flow.placed) ≤ most

module _ (m : Memory) (run k : ℕ) where
  abbrev pub Amid : ℕ → Turn → Type 0
  Amid most s = IsAmid m run k most s

  less_room : (a b c d most : ℕ) → c ≡ a → d ≤ b → a + b ≤ most → c + d ≤ most
  less_room a b c d most one two room = omega (arith, one, two, room)

  comes_amid : (most : ℕ) (s t : Turn) → t.run ≡ s.run → Comes (parts s) (parts t) → Amid most s → Amid most t
  comes_amid most s t run_is comes amid =
      let less : Less s.cache t.cache = comes.memory amid.grows.owners in
      record {
        run_is = run_is ∙ amid.run_is;
        grows = grows_less m s.cache t.cache amid.grows less;
        rise = comes.flow.rise amid.rise;
        room = less_room (length s.cache.grown) (length (line_of k s.flow.placed)) (length t.cache.grown) (length (line_of k t.flow.placed)) most (ap (λ (ids : List ObjectId). length ids) less.grown) (comes.flow.lines k) amid.room;
      }

  pub goes_amid : (most : ℕ) (s t : Turn) → t.run ≡ s.run → Goes (parts s) (parts t) → Amid most s → Amid most t
  goes_amid most s t run_is goes amid = comes_amid most s t run_is (comes_of (parts s) (parts t) goes) amid

  same_amid : (most : ℕ) (s t : Turn) → t ≡ s → Amid most s → Amid most t
  same_amid most s t is amid = subst (λ (u : Turn). Amid most u) (sym is) amid

  more_amid : (s : Turn) → Amid 15 s → Amid 16 s
  more_amid s amid = record { run_is = amid.run_is; grows = amid.grows; rise = amid.rise; room = omega (arith, amid.room) }

  pub makes_amid : (most : ℕ) (made : Sides → Sides) (x y : Both) → ((z : Sides) → Goes z.parts (made z).parts) → Makes made x y → Amid most x.state → Amid most y.state
  makes_amid most made x y goes it amid =
      goes_amid most x.state y.state (ap (λ (t : Turn). t.run) it.rest) (subst (λ (z : Sides). Goes (parts x.state) z.parts) (sym it.is) (goes (sides_of x))) amid

  -- ---- data

  pub record HasDelivered (s t : Turn) : Type 0 where
    pub amid : Amid 16 t
    pub few : length t.cache.grown ≤ 15

  -- what joins
  joined_amid : (n count : ℕ) (s t v : Turn) → Amid 15 s → 1 ≤ length (line_of k s.flow.placed) → v.run ≡ s.run → Flows s.flow v.flow → ((q : Memory) → HasJoined v.cache q → HasGrownBy m s.cache q) → IsButForCells (with_dropped_in n count v) (record t { seats = s.seats }) → HasDelivered s t
  joined_amid n count s t v amid some run_is flows grows but = record {
    amid = record {
      run_is = ap (λ (u : Turn). u.run) but.rest ∙ run_is ∙ amid.run_is;
      grows = has.grows;
      rise = subst Rise (sym flow_is) ((dropped_flows n count v.flow).rise (flows.rise amid.rise));
      room = more_room (length s.cache.grown) (length t.cache.grown) (length (line_of k s.flow.placed)) (length (line_of k t.flow.placed)) has.few lines amid.room;
    };
    few = few_room (length s.cache.grown) (length t.cache.grown) (length (line_of k s.flow.placed)) has.few some amid.room;
  }
    where
      has : HasGrownBy m s.cache t.cache
      has = grows t.cache but.cache

      flow_is : t.flow ≡ with_dropped n count v.flow
      flow_is = ap (λ (u : Turn). u.flow) but.rest

      lines : length (line_of k t.flow.placed) ≤ length (line_of k s.flow.placed)
      lines = subst (λ (g : Exchanges). length (line_of k g.placed) ≤ length (line_of k s.flow.placed)) (sym flow_is) (le_two _ _ _ ((dropped_flows n count v.flow).lines k) (flows.lines k))

  delivered_amid : (n : ℕ) (bytes : Bytes) (s t : Turn) → first_on k (parts s) ≡ Some n → Delivers n bytes s t → Amid 15 s → HasDelivered s t
  delivered_amid n bytes s t first it amid = by (exchange_at n s.flow) it.rest
    where
      some : 1 ≤ length (line_of k s.flow.placed)
      some = some_line k n s.flow.placed first

      few : length s.cache.grown ≤ 15
      few = under_room (length s.cache.grown) (length (line_of k s.flow.placed)) amid.room

      -- all stays
      stays : IsButForCells (with_dropped_in n (length bytes) s) (record t { seats = s.seats }) → HasDelivered s t
      stays but = joined_amid n (length bytes) s t s amid some refl (flows_same s.flow s.flow refl) (λ q has. still_grows m s.cache q amid.grows has) but

      within : (number : ℕ) (span : Span) (o : Option ℕ) → IsButForCells (with_dropped_in n (length bytes) (joined_within number o span bytes s)) (record t { seats = s.seats }) → HasDelivered s t
      within number span None but = stays but
      within number span (Some left) but =
          let kept : ℕ = on_disk (extent_of span.0 s.cache) span.1 (length (take left bytes)) in
          joined_amid n (length bytes) s t (joined_within number (Some left) span bytes s) amid some refl (flows_changed number (moved_by (length (take left bytes))) s.flow (λ x. refl) (λ x. refl))
          (λ q has. bytes_grow m s.cache q span.0 (span.1 + kept) (drop kept (take left bytes)) few amid.grows has) but

      bound : (number : ℕ) (o : Option Span) → IsButForCells (with_dropped_in n (length bytes) (joined_by number o bytes s)) (record t { seats = s.seats }) → HasDelivered s t
      bound number None but = stays but
      bound number (Some span) but = within number span (left_for number s.flow) but

      none : IsButForCells s (record t { seats = s.seats }) → HasDelivered s t
      none but = record {
        amid = record {
          run_is = ap (λ (u : Turn). u.run) but.rest ∙ amid.run_is;
          grows = (still_grows m s.cache t.cache amid.grows but.cache).grows;
          rise = subst Rise (sym (ap (λ (u : Turn). u.flow) but.rest)) amid.rise;
          room = omega (arith, amid.room, ap (λ (ids : List ObjectId). length ids) (ap (λ (l : Memory). l.grown) but.cache.rest), ap (λ (u : Turn). length (line_of k u.flow.placed)) but.rest);
        };
        few = omega (arith, few, ap (λ (l : Memory). length l.grown) but.cache.rest);
      }

      by : (o : Option Exchange) → IsButForCells (delivered_for o n bytes s) (record t { seats = s.seats }) → HasDelivered s t
      by None but = none but
      by (Some e) but = bound e.number e.bound but

  data_amid : (came : Bytes) (s t : Turn) → DataCame k came s t → Amid 15 s → (t ≡ s) ⊎ HasDelivered s t
  data_amid [] s t is amid = inl is
  data_amid (b ∷ bytes) s t it amid = by (first_on k (parts s)) refl it
    where
      by : (o : Option ℕ) → first_on k (parts s) ≡ o → DeliversTo o (b ∷ bytes) s t → (t ≡ s) ⊎ HasDelivered s t
      by None first is = inl is
      by (Some n) first delivers = inr (delivered_amid n (b ∷ bytes) s t first delivers amid)

  -- ---- a response is whole: it is out of its line

  whole_out : (x y : Both) → Makes (response_whole k) x y → Amid 16 x.state → length x.state.cache.grown ≤ 15 → Amid 15 y.state
  whole_out x y it amid few = record { run_is = all.run_is; grows = all.grows; rise = all.rise; room = by (first_on k (parts x.state)) refl }
    where
      goes : Goes (parts x.state) (parts y.state)
      goes = subst (λ (z : Sides). Goes (parts x.state) z.parts) (sym it.is) (whole_goes k (sides_of x))

      all : Amid 16 y.state
      all = goes_amid 16 x.state y.state (ap (λ (t : Turn). t.run) it.rest) goes amid

      grown : length y.state.cache.grown ≡ length x.state.cache.grown
      grown = ap (λ (ids : List ObjectId). length ids) goes.memory.grown

      by : (o : Option ℕ) → first_on k (parts x.state) ≡ o → length y.state.cache.grown + length (line_of k y.state.flow.placed) ≤ 15
      by None first = omega (arith, grown, few, goes.flow.lines k, no_line k x.state.flow.placed first)
      by (Some n) first =
          let less : length (line_of k y.state.flow.placed) + 1 ≤ length (line_of k x.state.flow.placed) =
          subst (λ (z : Sides). length (line_of k z.parts.flow.placed) + 1 ≤ length (line_of k x.state.flow.placed)) (sym it.is) (whole_less k n (sides_of x) first amid.rise) in
          omega (arith, grown, less, amid.room)

  end_amid : (came : Bytes) (x y : Both) → DataCameThen (response_whole k) k came x y → Amid 15 x.state → Amid 15 y.state
  end_amid came x y it amid = by (data_amid came x.state it.between it.delivers amid)
    where
      by : (it.between ≡ x.state) ⊎ HasDelivered x.state it.between → Amid 15 y.state
      by (inl same) = makes_amid 15 (response_whole k) (record x { state = it.between }) y (whole_goes k) it.makes (same_amid 15 x.state it.between same amid)
      by (inr has) = whole_out (record x { state = it.between }) y it.makes has.amid has.few

  bad_amid : (came : Bytes) (x y : Both) → DataCameThen (bad_response k) k came x y → Amid 15 x.state → Amid 16 y.state
  bad_amid came x y it amid = makes_amid 16 (bad_response k) (record x { state = it.between }) y (bad_goes k) it.makes (by (data_amid came x.state it.between it.delivers amid))
    where
      by : (it.between ≡ x.state) ⊎ HasDelivered x.state it.between → Amid 16 it.between
      by (inl same) = same_amid 16 x.state it.between same (more_amid x.state amid)
      by (inr has) = has.amid

  idle_amid : (came : Bytes) (s t : Turn) → DataCame k came s t → Amid 15 s → Amid 16 t
  idle_amid came s t it amid = by (data_amid came s t it amid)
    where
      by : (t ≡ s) ⊎ HasDelivered s t → Amid 16 t
      by (inl same) = same_amid 16 s t same (more_amid s amid)
      by (inr has) = has.amid

  -- ---- a final head

  row_amid : (shelf : KeptMap) (o : Option Bytes) (s t : Turn) → HasRowFor shelf o s t → Amid 15 s → Amid 15 t
  row_amid shelf None s t is amid = same_amid 15 s t is amid
  row_amid shelf (Some key) s t it amid = same_amid 15 (with_room_if_over it.entered) t it.room (goes_amid 15 it.entered (with_room_if_over it.entered) (over_run it.entered) (over_goes it.entered) (by it.comes))
    where
      by : MayCome shelf key s it.entered → Amid 15 it.entered
      by (inl comes) =
          comes_amid 15 s it.entered (ap (λ (u : Turn). u.run) comes.rest)
          (record { memory = λ owners. brought_less key (kept_alone key shelf s.cache) s.cache it.entered.cache comes.cache owners; size = brought_size key (kept_alone key shelf s.cache) s.cache it.entered.cache comes.cache; flow = flows_same s.flow it.entered.flow (ap (λ (u : Turn). u.flow) comes.rest) }) amid
      by (inr astray) = same_amid 15 (gone_astray s) it.entered astray (goes_amid 15 s (gone_astray s) refl (goes_same (parts s) (parts (gone_astray s)) refl refl) amid)

  taken_amid : (o : Option Response) (n : ℕ) (stays : Option Bool) (s t : Turn) → IsTaken o n stays s t → Amid 15 s → Amid 15 t
  taken_amid None n stays s t it amid = same_amid 15 s t it.1 amid
  taken_amid (Some head) n stays s t it amid =
      comes_amid 15 s t (ap (λ (u : Turn). u.run) it.rest ∙ roomed_run head (answer_to head (entry_of n s.flow)) s) (answers_come n head (answer_to head (entry_of n s.flow)) s (parts t) it.is) amid

  on_amid : (o : Option Bool) (x y : Both) → GoesOnBehind o k x y → Amid 15 x.state → Amid 15 y.state
  on_amid None x y it amid = makes_amid 15 (bad_response k) x y (bad_goes k) it amid
  on_amid (Some stays) x y is amid = same_amid 15 x.state y.state (ap (λ (z : Both). z.state) is) amid

  head_amid : (o : Option ℕ) (shelf : KeptMap) (x y : Both) → HeadCameFor o shelf k x y → Amid 15 x.state → Amid 15 y.state
  head_amid None shelf x y it amid = makes_amid 15 (bad_response k) x y (bad_goes k) it amid
  head_amid (Some n) shelf x y it amid =
      on_amid it.answers.stays (record x { state = it.answers.between }) y it.answers.goes_on
      (taken_amid (head_on k x.peers) n it.answers.stays it.beside it.answers.between it.answers.taken (row_amid shelf (key_of n x.state.flow) x.state it.beside it.row amid))

  -- ---- one step behind the other

  abbrev pub After : Option Remains → Turn → Type 0
  After None s = Amid 16 s
  After (Some here) s = Amid 15 s

  step_amid : (o : Option Peer) (shelf : KeptMap) (here : Remains) (x y : Both) (behind : Option Remains) → IsStepOn o shelf k here x y behind → Amid 15 x.state → After behind y.state
  step_amid None shelf here x y behind it amid = subst (λ (r : Option Remains). After r y.state) (sym it.1) (same_amid 16 x.state y.state (ap (λ (z : Both). z.state) it.0) (more_amid x.state amid))
  step_amid (Some peer) shelf here x y behind it amid = subst (λ (r : Option Remains). After r y.state) (sym it.leaves) (by it.told.1 it.takes)
    where
      by : (step : Step) → TakesStep step shelf k here.came (record x { peers = it.fed }) y → After (left_behind it.told.0 step here) y.state
      by Head head = head_amid (first_on k (parts x.state)) shelf (record x { peers = it.fed }) y head amid
      by (Body from to) is = same_amid 15 x.state y.state (ap (λ (z : Both). z.state) is) amid
      by End ends = end_amid here.came (record x { peers = it.fed }) y ends amid
      by Bad bad = bad_amid here.came (record x { peers = it.fed }) y bad amid
      by Idle idle = idle_amid here.came x.state y.state idle.0 amid

  after_more : (o : Option Remains) (s : Turn) → After o s → Amid 16 s
  after_more None s amid = amid
  after_more (Some here) s amid = more_amid s amid

  got_amid : (more : ℕ) (shelf : KeptMap) (o : Option Remains) (x y : Both) → GotFrom more shelf k o x y → After o x.state → Amid 16 y.state
  unfolding GotFrom
  got_amid zero shelf o x y is after = same_amid 16 (gone_astray_where (is_some o) x.state) y.state (ap (λ (z : Both). z.state) is) (astray (is_some o))
    where
      astray : (b : Bool) → Amid 16 (gone_astray_where b x.state)
      astray true = goes_amid 16 x.state (gone_astray x.state) refl (goes_same (parts x.state) (parts (gone_astray x.state)) refl refl) (after_more o x.state after)
      astray false = after_more o x.state after
  got_amid (suc more) shelf None x y is after = same_amid 16 x.state y.state (ap (λ (z : Both). z.state) is) after
  got_amid (suc more) shelf (Some here) x y it after = got_amid more shelf it.1 it.0 y it.3 (step_amid (going_on (find (is_peer k) x.peers)) shelf here x it.0 it.1 it.2 after)

  -- ---- a read

  ends_amid : (made : Sides → Sides) (x y : Both) → ((z : Sides) → Goes z.parts (made z).parts) → EndsBehind made x y → Amid 16 x.state → Amid 16 y.state
  ends_amid made x y goes it amid =
      goes_amid 16 x.state y.state (ap (λ (t : Turn). t.run) it.rest) (goes_then (parts x.state) (made (sides_of x)).parts (parts y.state) (goes (sides_of x)) (replies_go x.state.awake.items (made (sides_of x)) (sides_of y) it.is)) amid

  pub received_amid : (found : Found) (shelf : KeptMap) (front : Bytes) (x y : Both) → IsReceived found shelf k front x y → Amid 15 x.state → Amid 16 y.state
  received_amid None shelf front x y is amid = same_amid 16 x.state y.state (ap (λ (z : Both). z.state) is) (more_amid x.state amid)
  received_amid (Some (Ok (Some_bytes n))) shelf front x y it amid = ends_amid (λ z. z) it.0 y (λ z. goes_none z.parts) it.2 (got_amid 65600 shelf (Some (remaining (take n front) [])) x it.0 it.1 amid)
  received_amid (Some (Ok Ended)) shelf front x y it amid = ends_amid (origin_gone true k) x y (gone_goes true k) it (more_amid x.state amid)
  received_amid (Some (Ok NotYet)) shelf front x y is amid = same_amid 16 x.state y.state (ap (λ (z : Both). z.state) is) (more_amid x.state amid)
  received_amid (Some (Err fault)) shelf front x y it amid = ends_amid (origin_gone false k) x y (gone_goes false k) it (more_amid x.state amid)
