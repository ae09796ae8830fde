-- A row that leaves memory for a decision leaves that decision due.
use Rattle.std.proofs.Common.{◌≡◌, ◌≤◌, refl, sym, subst, ap, ap₂, ◌∙◌, ℕ, zero, suc, ◌+◌, ◌*◌, ◌/◌, ◌%◌, Bool, true, false, ◌==◌, ◌&&◌, ◌||◌, not, cond, nat_lt, nat_le, min, find, List, [], ◌∷◌, ◌++◌, length, drop, take, Option, Some, None, option_map, Ok, Err, Result, arith}
use Rattle.std.specs.List.{list_any}
use Rattle.std.specs.Prelude.{◌-◌, count_by, is_some}
use Rattle.pp_cache_law.proofs.Finds.{find_kept, find_passes, none_within}
use Rattle.pp_cache_law.proofs.Numbers.{is_same, same_test, some_is}
use Rattle.pp_cache_law.proofs.PairLemmas.{count_first}
use Rattle.pp_head.specs.Request.{Request}
use Rattle.pp_law.specs.Chunks.{chunk_bytes, filled, is_chunk}
use Rattle.pp_law.specs.Connections.{client, is_client, is_trying}
use Rattle.pp_law.specs.Deciding.{has_to_forget, is_for_memory}
use Rattle.pp_law.specs.Decisions.{decide, if_fits, kind_of}
use Rattle.pp_law.specs.Due.{Due, Decide, CutOff, decides_for, due_cut, due_decision, due_of, due_to, first_due, give_up, is_idle, is_short, is_told}
use Rattle.pp_law.specs.Lists.{Bytes, first_some, is_some_with, is_this, without}
use Rattle.pp_law.specs.Offers.{is_at_body, passed_part, piece, run_at}
use Rattle.pp_law.specs.Opening.{is_same_phase}
use Rattle.pp_law.specs.Phases.{decides, is_done_with}
use Rattle.pp_law.specs.Requests.{Front, NoHeadYet, NoHead, IsRequest, Parsed, key_in, refusal_of}
use Rattle.pp_law.specs.Stages.{bound_of, is_begun, is_passing, reply_of}
use Rattle.pp_law.specs.State.{State, Chunk, Client, Entry, Exchange, Instance as Known, Phase, Deciding as IsDeciding, DecidingAgain, Reply, Stage, Undecided, Waiting, Passing, Answering, Awaited, Useless, Joins, Passes, TooWide}
use Rattle.pp_law.specs.Table.{Next, asks_for, extent_of, follows, forget, idle_row, instance, is_bound_to, is_followed, is_idle_row, is_instance, is_next_held, is_provided, is_row_of, is_soon, must_forget, next_from, next_of, of_entry, of_instance, row, row_on_disk, rows}
use Rattle.pp_plan.specs.Decision.{decision}
use Rattle.pp_plan.specs.Row.{Row}
use Rattle.pp_plan.specs.declared.table.Begun.{Begun}
use Rattle.pp_plan.specs.declared.table.Begun.TheVariants.{Nothing, Settled, Other, Widened}
use Rattle.pp_target.specs.Key.{Key, text_of}
use Rattle.pp_target.specs.declared.target.TargetFault.{TargetFault}
use Rattle.pp_text.specs.Bytes.{is_empty}
use Rattle.pp_turns_law.proofs.Brought.{again_by, closed, cut_by, due_by, due_read, first_by, next_by, source_by, stage_by}
use Rattle.pp_world.specs.declared.note.Cause.{Cause}
use Rattle.pp_world.specs.declared.note.Cause.TheVariants.{Superseded, Origin, Short, Idle, Stop}
use Rattle.pp_world.specs.declared.note.Decision.{Decision}
use Rattle.pp_world.specs.declared.note.Decision.TheVariants.{Refuse}
use Rattle.pp_turns_law.specs.Ways.{IsStillDue, ItsDecisionIsStillDue, left_for}

-- ---- of lists

-- what holds of none of a list does not hold of one that is found there
none_found : {A : Type 0} (q p : A → Bool) (xs : List A) (y : A) → list_any q xs ≡ false → find p xs ≡ Some y → q y ≡ false
none_found q p [] y none found = absurd (cc found)
none_found {A} q p (x ∷ xs) y none found = by (q x) (p x) refl none found (none_found q p xs y)
  where
    by : (a b : Bool) → q x ≡ a → (a || list_any q xs) ≡ false → cond b (Some x) (find p xs) ≡ Some y → (list_any q xs ≡ false → find p xs ≡ Some y → q y ≡ false) → q y ≡ false
    by true b is off at rest = absurd (cc off)
    by false true is off at rest = ap q (sym (some_is x y at)) ∙ is
    by false false is off at rest = rest off at

-- where there is one that has it, there is a first
there_first : {A B : Type 0} (f : A → Option B) (p : A → Bool) (xs : List A) (x : A) (y : B) → find p xs ≡ Some x → f x ≡ Some y → is_some (first_some f xs) ≡ true
there_first f p [] x y found is = absurd (cc found)
there_first {A} {B} f p (z ∷ zs) x y found is = by (f z) (p z) refl found (λ at. there_first f p zs x y at is)
  where
    by : (o : Option B) (b : Bool) → f z ≡ o → cond b (Some z) (find p zs) ≡ Some x → (find p zs ≡ Some x → is_some (first_some f zs) ≡ true) → is_some (elim o as (λ c. Option B) [ Some w ↦ Some w | None ↦ first_some f zs ]) ≡ true
    by (Some w) b has at rest = refl
    by None true has at rest = let same : f z ≡ Some y = ap f (some_is z x at) ∙ is in absurd (cc (sym has ∙ same))
    by None false has at rest = rest at

-- ---- what is due is due to the client that it names

names_of : (s : State) (c : Client) (n i : ℕ) (d : Decision) → due_of s c ≡ Some (Decide n i d) → c.number ≡ n
names_of s c n i d = by (due_cut s c) (due_decision s c)
  where
    by : (o : Option Cause) (p : Option Decision)
        → (elim o as (λ x. Option Due) [ Some cause ↦ Some (CutOff c.number cause) | None ↦ elim p as (λ x. Option Due) [ Some e ↦ Some (Decide c.number c.index e) | None ↦ None ] ]) ≡ Some (Decide n i d) → c.number ≡ n
    by (Some cause) p at = absurd (cc at)
    by None None at = absurd (cc at)
    by None (Some e) at = let same : Decide c.number c.index e ≡ Decide n i d = some_is (Decide c.number c.index e) (Decide n i d) at in cc same

its_number : (c : Client) (n : ℕ) → c.number ≡ n → is_client n c ≡ true
its_number c n is = same_test c.number n is

count_one : (s : State) (cs : List Client) (n i : ℕ) (d : Decision) → first_some (due_of s) cs ≡ Some (Decide n i d) → 1 ≤ count_by (is_client n) cs
count_one s [] n i d is = absurd (cc is)
count_one s (c ∷ cs) n i d is = by (due_of s c) (is_client n c) refl refl is (count_one s cs n i d)
  where
    by : (o : Option Due) (b : Bool) → due_of s c ≡ o → is_client n c ≡ b → (elim o as (λ x. Option Due) [ Some y ↦ Some y | None ↦ first_some (due_of s) cs ]) ≡ Some (Decide n i d)
        → (first_some (due_of s) cs ≡ Some (Decide n i d) → 1 ≤ count_by (is_client n) cs) → 1 ≤ count_by (is_client n) (c ∷ cs)
    by o true due here at rest = subst (λ (k : ℕ). 1 ≤ k) (sym (count_first (is_client n) c cs ∙ ap (λ (b : Bool). cond b 1 0 + count_by (is_client n) cs) here)) (omega arith)
    by (Some y) false due here at rest = absurd (cc (sym here ∙ its_number c n (names_of s c n i d (due ∙ at))))
    by None false due here at rest = subst (λ (k : ℕ). 1 ≤ k) (sym (count_first (is_client n) c cs ∙ ap (λ (b : Bool). cond b 1 0 + count_by (is_client n) cs) here)) (omega (arith, rest at))

-- where numbers are distinct, the client of that number has what is due first
its_due : (s : State) (cs : List Client) (n i : ℕ) (d : Decision) (c : Client) → first_some (due_of s) cs ≡ Some (Decide n i d) → find (is_client n) cs ≡ Some c → count_by (is_client n) cs ≤ 1 → due_of s c ≡ Some (Decide n i d)
its_due s [] n i d c first found few = absurd (cc found)
its_due s (e ∷ es) n i d c first found few = by (due_of s e) (is_client n e) refl refl first found (its_due s es n i d c)
  where
    counted : (b : Bool) → is_client n e ≡ b → cond b 1 0 + count_by (is_client n) es ≤ 1
    counted b here = subst (λ (k : ℕ). k ≤ 1) (count_first (is_client n) e es ∙ ap (λ (t : Bool). cond t 1 0 + count_by (is_client n) es) here) few

    by : (o : Option Due) (b : Bool) → due_of s e ≡ o → is_client n e ≡ b → (elim o as (λ x. Option Due) [ Some y ↦ Some y | None ↦ first_some (due_of s) es ]) ≡ Some (Decide n i d) → cond b (Some e) (find (is_client n) es) ≡ Some c
        → (first_some (due_of s) es ≡ Some (Decide n i d) → find (is_client n) es ≡ Some c → count_by (is_client n) es ≤ 1 → due_of s c ≡ Some (Decide n i d)) → due_of s c ≡ Some (Decide n i d)
    by (Some y) true due here at there rest = ap (due_of s) (sym (some_is e c there)) ∙ due ∙ at
    by (Some y) false due here at there rest = absurd (cc (sym here ∙ its_number e n (names_of s e n i d (due ∙ at))))
    by None true due here at there rest = absurd (omega (arith, counted true here, count_one s es n i d at))
    by None false due here at there rest = rest at there (omega (arith, counted false here))

-- ---- without the row

-- as it is when that row is out, whoever it left for
abbrev without_known : Known → Option ℕ → State → State
without_known x room s = record s { instances = without (is_instance x.id) s.instances; chunks = without (λ (c : Chunk). c.instance == x.id) s.chunks; made_room_for = room }

isnt_so : (b : Bool) → b ≡ false → not b ≡ true
isnt_so true is = absurd (cc is)
isnt_so false is = refl

module _ (s : State) (x : Known) (room : Option ℕ) where
  abbrev out : State
  out = without_known x room s

  -- what another instance has in memory stays

  chunk_same : (id i : ℕ) → (id == x.id) ≡ false → chunk_bytes id i out.chunks ≡ chunk_bytes id i s.chunks
  chunk_same id i apart =
      ap (λ (o : Option Chunk). elim o as (λ t. Bytes) [ None ↦ [] | Some c ↦ c.bytes ])
      (find_kept (is_chunk id i) (λ (c : Chunk). not (c.instance == x.id)) s.chunks (λ c is. other c (c.instance == id) (c.index == i) refl is))
    where
      other : (c : Chunk) (a b : Bool) → (c.instance == id) ≡ a → (a && b) ≡ true → not (c.instance == x.id) ≡ true
      other c true b own is = isnt_so (c.instance == x.id) (ap (λ (n : ℕ). n == x.id) (is_same c.instance id own) ∙ apart)
      other c false b own is = absurd (cc is)

  run_same : (more id at : ℕ) → (id == x.id) ≡ false → run_at more id at out.chunks ≡ run_at more id at s.chunks
  run_same zero id at apart = refl
  run_same (suc more) id at apart =
      ap₂ (λ (bytes rest : Bytes). drop (at % 4096) bytes ++ (elim (length bytes == 4096) as (λ t. Bytes) [ true ↦ rest | false ↦ [] ])) (chunk_same id (at / 4096) apart) (run_same more id ((at / 4096 + 1) * 4096) apart)

  piece_same : (n : Next) → (n.source.id == x.id) ≡ false → piece out n ≡ piece s n
  piece_same n apart = ap (λ (bytes : Bytes). take (n.to - n.at) bytes) (run_same 16 n.source.id n.at apart)

  filled_same : (id i : ℕ) → (id == x.id) ≡ false → filled id i out.chunks ≡ filled id i s.chunks
  filled_same id i apart = ap (λ (bytes : Bytes). length bytes) (chunk_same id i apart)

  held_same : (n : Next) → (n.source.id == x.id) ≡ false → is_next_held out n ≡ is_next_held s n
  held_same n apart = ap (λ (v : ℕ). nat_lt n.at (extent_of s n.source) || nat_lt (n.at % 4096) v) (filled_same n.source.id (n.at / 4096) apart)

  -- whether an exchange brings it goes by how far its chunk is filled
  abbrev brings_by : Next → ℕ → Exchange → Bool
  brings_by n v e = elim (bound_of e) [
    | Some b ↦ (b.instance == n.source.id) && nat_lt n.at b.to && is_soon b n.at && nat_le b.next (min n.at (n.at / 4096 * 4096 + v))
    | None ↦ asks_for n.source n.at e
  ]

  provided_same : (n : Next) → (n.source.id == x.id) ≡ false → is_provided out n ≡ is_provided s n
  provided_same n apart =
      ap (λ (v : ℕ). (nat_lt n.at (extent_of s n.source) || nat_lt (n.at % 4096) v) || list_any (brings_by n v) s.exchanges) (filled_same n.source.id (n.at / 4096) apart)

  -- ---- cuts

  abbrev says_with : Client → Bytes → Bool → Bool
  says_with c bytes held =
      not (is_empty (elim (is_empty c.interim_left) as (λ t. Bytes) [
        | false ↦ c.interim_left
        | true ↦ elim (reply_of c) as (λ t. Bytes) [
          | None ↦ []
          | Some r ↦ elim r.has_begun as (λ t. Bytes) [ false ↦ [] | true ↦ r.head_left ++ (elim (is_passing r.decision) as (λ t. Bytes) [ true ↦ passed_part c | false ↦ bytes ]) ]
        ]
      ]))
      || (is_at_body c && held)

  abbrev cut_with : Client → Bool → Bool → Option Cause
  cut_with c says behind =
      let dry = is_begun c && not says in
      elim c.is_closing [
        | true ↦ None
        | false ↦ option_map (λ (cause : Bool × Cause). cause.1) (find (λ (cause : Bool × Cause). cause.0) (
            (s.is_stopped && is_begun c, Stop) ∷ (dry && is_short c, Short) ∷ (dry && not (is_trying c.course), Origin) ∷ (is_begun c && behind, Superseded) ∷ (is_idle s c, Idle) ∷ []
            ))
      ]

  some_cut : (c : Client) (n : Next) → (n.source.id == x.id) ≡ false → cut_by out c (Some n) ≡ cut_by s c (Some n)
  some_cut c n apart =
      ap₂ (λ (says behind : Bool). cut_with c says behind) (ap₂ (λ (bytes : Bytes) (held : Bool). says_with c bytes held) (piece_same n apart) (held_same n apart))
      (ap (λ (b : Bool). n.source.is_retired && not b) (provided_same n apart))

  none_cut : (c : Client) → cut_by out c None ≡ cut_by s c None
  none_cut c = refl

  -- ---- what a client follows that does not follow the row

  instance_same : (id : ℕ) → (id == x.id) ≡ false → instance out id ≡ instance s id
  instance_same id apart = find_kept (is_instance id) (λ (y : Known). not (is_instance x.id y)) s.instances (λ y is. isnt_so (y.id == x.id) (ap (λ (n : ℕ). n == x.id) (is_same y.id id is) ∙ apart))

  source_same : (source : Option ℕ) → is_this x.id source ≡ false → source_by out source ≡ source_by s source
  source_same None apart = refl
  source_same (Some id) apart = instance_same id apart

  module _ (c : Client) (going : c.is_closing ≡ false) (free : follows x.id c ≡ false) where
    apart_of : (o : Option Reply) → reply_of c ≡ o → is_some_with (λ (r : Reply). is_this x.id r.source) o ≡ false
    apart_of o is = sym (ap₂ (λ (b : Bool) (p : Option Reply). not b && is_some_with (λ (r : Reply). is_this x.id r.source) p) going is) ∙ free

    from_cut : (r : Reply) (y : Known) → (y.id == x.id) ≡ false → cut_by out c (next_from y r) ≡ cut_by s c (next_from y r)
    from_cut r y apart = by (nat_lt r.at r.to)
      where
        by : (b : Bool) → cut_by out c (elim b as (λ t. Option Next) [ true ↦ Some (record { source = y; at = r.at; to = r.to }) | false ↦ None ])
            ≡ cut_by s c (elim b as (λ t. Option Next) [ true ↦ Some (record { source = y; at = r.at; to = r.to }) | false ↦ None ])
        by true = some_cut c (record { source = y; at = r.at; to = r.to }) apart
        by false = none_cut c

    abbrev next_at : Reply → Option Known → Option Next
    next_at r o = elim o [ None ↦ None | Some y ↦ next_from y r ]

    source_cut : (r : Reply) (id : ℕ) → (id == x.id) ≡ false → (o : Option Known) → instance s id ≡ o → cut_by out c (next_at r o) ≡ cut_by s c (next_at r o)
    source_cut r id apart None is = none_cut c
    source_cut r id apart (Some y) is = from_cut r y (ap (λ (n : ℕ). n == x.id) (is_same y.id id (find_passes (is_instance id) s.instances y is)) ∙ apart)

    reply_cut : (r : Reply) (source : Option ℕ) → is_this x.id source ≡ false → cut_by out c (next_at r (source_by out source)) ≡ cut_by s c (next_at r (source_by s source))
    reply_cut r None apart = none_cut c
    reply_cut r (Some id) apart = ap (λ (o : Option Known). cut_by out c (next_at r o)) (instance_same id apart) ∙ source_cut r id apart (instance s id) refl

    next_cut : (o : Option Reply) → is_some_with (λ (r : Reply). is_this x.id r.source) o ≡ false → cut_by out c (next_by out o) ≡ cut_by s c (next_by s o)
    next_cut None apart = none_cut c
    next_cut (Some r) apart = reply_cut r r.source apart

    cut_same : cut_by out c (next_of out c) ≡ cut_by s c (next_of s c)
    cut_same =
        ap (λ (b : Bool). cut_by out c (elim b as (λ t. Option Next) [ true ↦ None | false ↦ next_by out (reply_of c) ])) going
        ∙ next_cut (reply_of c) (apart_of (reply_of c) refl)
        ∙ ap (λ (b : Bool). cut_by s c (elim b as (λ t. Option Next) [ true ↦ None | false ↦ next_by s (reply_of c) ])) (sym going)

    -- ---- what is decided for it, whose key has no row in memory

    module _ (key : Bytes) (keyed : option_map text_of (key_in c.front) ≡ Some key) (lost : row s key ≡ None) where
      abbrev begun_by : Option Known → Begun
      begun_by o = elim c.brought [
        | Awaited ↦ Nothing
        | Useless ↦ Nothing
        | Joins id plain ↦ elim (is_some_with (λ (y : Known). y.id == id) o) [ true ↦ Settled | false ↦ Nothing ]
        | Passes p ↦ Other
        | TooWide ↦ Widened
      ]

      abbrev seen_in : State → Request → Key → Option Known → Option Row
      seen_in u head own o = elim o [ Some y ↦ Some (of_instance u head y) | None ↦ elim (row_on_disk u (text_of own)) [ None ↦ None | Some e ↦ Some (of_entry head e) ] ]

      abbrev decided_in : State → Request → Key → Option Known → Decision
      decided_in u head own o = let seen = seen_in u head own o in let d = decision head seen (begun_by o) u.clock in if_fits u head own (kind_of head seen d) d

      row_gone : row out key ≡ None
      row_gone = none_within (is_row_of key) (λ (y : Known). not (is_instance x.id y)) s.instances lost

      decided_same : (head : Request) (own : Key) → text_of own ≡ key → decided_in out head own (row out (text_of own)) ≡ decided_in s head own (row s (text_of own))
      decided_same head own is =
          ap (λ (o : Option Known). decided_in out head own o) (ap (λ (k : Bytes). row out k) is ∙ row_gone) ∙ ap (λ (o : Option Known). decided_in s head own o) (sym lost ∙ ap (λ (k : Bytes). row s k) (sym is))

      abbrev head_by : Option ℕ → Result Key TargetFault → (Key → Decision) → Decision
      head_by refused keys to = elim refused [ Some status ↦ Refuse status | None ↦ elim keys [ Ok own ↦ to own | Err fault ↦ Refuse 400 ] ]

      key_same : (r : Parsed) (refused : Option ℕ) (keys : Result Key TargetFault) → option_map text_of (elim keys as (λ t. Option Key) [ Ok own ↦ Some own | Err fault ↦ None ]) ≡ Some key
          → head_by refused keys (λ own. decided_in out r.head own (row out (text_of own))) ≡ head_by refused keys (λ own. decided_in s r.head own (row s (text_of own)))
      key_same r (Some status) keys is = refl
      key_same r None (Err fault) is = absurd (cc is)
      key_same r None (Ok own) is = decided_same r.head own (some_is (text_of own) key is)

      abbrev front_by : State → Front → Option Decision
      front_by u front = elim front [ NoHeadYet ↦ None | NoHead status ↦ Some (Refuse status) | IsRequest r ↦ Some (head_by (refusal_of r) r.key (λ own. decided_in u r.head own (row u (text_of own)))) ]

      front_same : (front : Front) → option_map text_of (key_in front) ≡ Some key → front_by out front ≡ front_by s front
      front_same NoHeadYet is = refl
      front_same (NoHead status) is = refl
      front_same (IsRequest r) is = ap (λ (d : Decision). Some d) (key_same r (refusal_of r) r.key is)

      decide_same : decide out c ≡ decide s c
      decide_same = front_same c.front keyed

      -- ---- and what is due to it

      stage_same : (stage : Stage) → c.stage ≡ stage → stage_by out c stage ≡ stage_by s c stage
      stage_same Undecided is = ap (λ (d : Option Decision). first_by s c c.waits_on d) decide_same
      stage_same Waiting is = ap (λ (d : Option Decision). give_up c.course (elim (is_told c.brought) as (λ b. Option Decision) [ true ↦ d | false ↦ None ])) decide_same
      stage_same Passing is = refl
      stage_same (Answering r) is = ap₂ (λ (o : Option Known) (d : Option Decision). again_by c r o d) (source_same r.source (apart_of (Some r) (answers c.stage is))) decide_same
        where
          answers : (stage : Stage) → stage ≡ Answering r → (elim stage as (λ b. Option Reply) [ Undecided ↦ None | Waiting ↦ None | Passing ↦ None | Answering q ↦ Some q ]) ≡ Some r
          answers stage at = ap (λ (t : Stage). elim t as (λ b. Option Reply) [ Undecided ↦ None | Waiting ↦ None | Passing ↦ None | Answering q ↦ Some q ]) at

      due_same : due_of out c ≡ due_of s c
      due_same = due_read out c ∙ ap₂ (λ (o : Option Cause) (d : Option Decision). due_by s c o d) cut_same (stage_same c.stage refl) ∙ sym (due_read s c)

-- ---- it is due still

first_of_four : (a b c d : Bool) → (not a && b && c && d) ≡ true → a ≡ false
first_of_four true b c d is = absurd (cc is)
first_of_four false b c d is = refl

nothing : {A : Type 0} (o : Option A) → is_some o ≡ false → o ≡ None
nothing None is = refl
nothing (Some x) is = absurd (cc is)

second_not : (a b c : Bool) → (a && not b && c) ≡ true → b ≡ false
second_not true true c is = absurd (cc is)
second_not true false c is = refl
second_not false b c is = absurd (cc is)

going_by : (s : State) (c : Client) (due : Due) → due_of s c ≡ Some due → c.is_closing ≡ false
going_by s c due is = by c.is_closing refl
  where
    by : (b : Bool) → c.is_closing ≡ b → b ≡ false
    by true at = absurd (cc (sym (closed s c at) ∙ is))
    by false at = refl

-- something is due as before
abbrev decides_at : State → Phase → Bool
decides_at s p = elim (is_same_phase IsDeciding p) [ true ↦ not (is_done_with p s) | false ↦ is_same_phase DecidingAgain p ]

taking_at : (s : State) (x : Known) (room : Option ℕ) (p : Phase) → is_some (first_due (without_known x room s)) ≡ true → decides_at s p ≡ true → decides_at (without_known x room s) p ≡ true
taking_at s x room IsDeciding some at = ap (λ (b : Bool). not (not b)) some
taking_at s x room p some at = at

same_out : (s : State) (x : Known) → left_for x s ≡ without_known x (decides_for (first_due s)) s
unfolding forget
same_out s x = refl

must_same : (s : State) (x : Known) (room : Option ℕ) (key : Bytes) → must_forget (without_known x room s) key ≡ must_forget (forget x.id s) key
unfolding forget
must_same s x room key = refl

still_due : (s : State) (n index : ℕ) (due : Decision) (c : Client) (key : Bytes) (x : Known) (room : Option ℕ) → room ≡ Some n → due_of s c ≡ Some (Decide n index due) → client s n ≡ Some c → option_map text_of (key_in c.front) ≡ Some key → must_forget s key ≡ true → idle_row s ≡ Some x
    → decides s ≡ true → must_forget (forget x.id s) key ≡ false → IsStillDue (without_known x room s) n index due
still_due s n index due c key x room made own there keyed must next taking fits =
    let going : c.is_closing ≡ false = going_by s c (Decide n index due) own in
    let lost : row s key ≡ None = nothing (row s key) (first_of_four (is_some (row s key)) (is_some (row_on_disk s key)) (not (nat_lt (rows s) 1024)) (is_some (idle_row s)) must) in
    let idle : is_followed s x.id ≡ false = second_not (not x.is_retired) (is_followed s x.id) (not (list_any (is_bound_to x.id) s.exchanges)) (find_passes (is_idle_row s) s.instances x next) in
    let free : follows x.id c ≡ false = none_found (follows x.id) (is_client n) s.clients c idle there in
    let still : due_of (without_known x room s) c ≡ Some (Decide n index due) = due_same s x room c going free key keyed lost ∙ own in
    record {
      taking = taking_at s x room s.phase (there_first (due_of (without_known x room s)) (is_client n) s.clients c (Decide n index due) there still) taking;
      next =
          ap (λ (o : Option ℕ). elim o as (λ t. Option Due) [ None ↦ first_due (without_known x room s) | Some m ↦ due_to (without_known x room s) m ]) made
          ∙ ap (λ (o : Option Client). elim o as (λ t. Option Due) [ None ↦ None | Some d ↦ due_of (without_known x room s) d ]) there
          ∙ still;
      room =
          ap (λ (o : Option Client). is_for_memory due || not (is_some_with (has_to_forget (without_known x room s)) o)) there
          ∙ ap (λ (b : Bool). is_for_memory due || not b) (has_room (key_in c.front) keyed)
          ∙ or_true (is_for_memory due);
    }
  where
    or_true : (b : Bool) → (b || true) ≡ true
    or_true true = refl
    or_true false = refl

    has_room : (o : Option Key) → option_map text_of o ≡ Some key → is_some_with (λ (k : Key). must_forget (without_known x room s) (text_of k)) o ≡ false
    has_room None is = refl
    has_room (Some k) is = ap (λ (text : Bytes). must_forget (without_known x room s) text) (some_is (text_of k) key is) ∙ must_same s x room key ∙ fits

pub stays_due : ItsDecisionIsStillDue
stays_due s n index due c key x first there few keyed must next taking fits =
    subst (λ (t : State). IsStillDue t n index due) (sym (same_out s x))
    (still_due s n index due c key x (decides_for (first_due s)) (ap decides_for first) (its_due s s.clients n index due c first there few) there keyed must next taking fits)
