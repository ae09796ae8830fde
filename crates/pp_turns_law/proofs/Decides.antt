-- What is decided by a kept row is what is decided by it in memory.
use Rattle.std.proofs.Common.{arith, ◌≡◌, ◌<◌, refl, sym, ap, ap₂, ◌∙◌, ℕ, suc, ◌+◌, ◌*◌, ◌%◌, ◌/◌, Bool, true, false, ◌||◌, ◌==◌, cond, nat_le, nat_lt, List, [], ◌∷◌, ◌++◌, Option, Some, None, Result, Ok, Err}
use Rattle.std.specs.Prelude.{bytes_eq}
use Rattle.std.proofs.lemmas.Bool.Decides.{nat_tests}
use Rattle.std.proofs.lemmas.Slice.Eq.{bytes_eq-Decides}
use Rattle.pp_cache_law.proofs.Entering.{kept_on_disk}
use Rattle.pp_cache_law.proofs.Finds.{find_joined, first_of_two}
use Rattle.pp_head.specs.Request.{Request}
use Rattle.pp_law.specs.Chunks.{filled}
use Rattle.pp_law.specs.Decisions.{decide, decide_for, decide_head, if_fits, kind_of}
use Rattle.pp_law.specs.Lists.{Bytes, is_some_with}
use Rattle.pp_law.specs.Requests.{Front, NoHeadYet, NoHead, IsRequest, Parsed, refusal_of}
use Rattle.pp_law.specs.State.{State, Client, Chunk, Entry, Instance, Brought, Awaited, Useless, Joins, Passes, TooWide}
use Rattle.pp_law.specs.Table.{chunks_in, extent_of, is_below, is_row_of, is_span_held, of_entry, of_instance, reach, row, row_for, row_on_disk, shown_span}
use Rattle.pp_plan.specs.Decision.{decision}
use Rattle.pp_plan.specs.Row.{Row}
use Rattle.pp_plan.specs.declared.table.Begun.{Begun}
use Rattle.pp_plan.specs.declared.table.Begun.TheVariants.{Nothing, Settled, Other, Widened}
use Rattle.pp_target.specs.Key.{Key, text_of}
use Rattle.pp_target.specs.declared.target.TargetFault.{TargetFault}
use Rattle.pp_world.specs.declared.note.Decision.{Decision}
use Rattle.pp_world.specs.declared.note.Decision.TheVariants.{Refuse}

-- ---- the row that comes in

abbrev pub known_of : State → Bytes → Entry → Instance
known_of s key e = record { id = s.next_instance; key = key; version = e.version; fields = e.fields; times = e.times; is_retired = false; is_new = false }

abbrev pub grown : State → Bytes → Entry → State
grown s key e = record s { instances = s.instances ++ known_of s key e ∷ []; next_instance = s.next_instance + 1 }

-- it is kept alone, and nothing of it is in memory
pub record ComesIn (s : State) (key : Bytes) (e : Entry) : Type 0 where
  pub alone : row s key ≡ None
  pub kept : row_on_disk s key ≡ Some e
  pub empty : (index : ℕ) → filled s.next_instance index s.chunks ≡ 0

-- ---- how far it is held

none_below : (n m : ℕ) → m ≡ 0 → nat_lt n m ≡ false
none_below n m none = grind (arith, nat_tests, none)

not_less : (n : ℕ) → nat_lt n n ≡ false
not_less n = grind (arith, nat_tests)

abbrev stepped : ℕ → ℕ → ℕ → List Chunk → ℕ → Bool → Bool → Bool → ℕ
stepped more id extent cs at under there whole = elim under as (λ c. ℕ) [
  | true ↦ reach more id extent cs extent
  | false ↦ elim there as (λ c. ℕ) [
    | false ↦ at
    | true ↦ elim whole as (λ c. ℕ) [ true ↦ reach more id extent cs ((at / 4096 + 1) * 4096) | false ↦ at / 4096 * 4096 + filled id (at / 4096) cs ]
  ]
]

-- nothing is in memory there
stays : (more id extent : ℕ) (cs : List Chunk) (at : ℕ) → nat_lt at extent ≡ false → ((index : ℕ) → filled id index cs ≡ 0) → reach (suc more) id extent cs at ≡ at
stays more id extent cs at isnt none =
    ap (λ (b : Bool). stepped more id extent cs at b (nat_lt (at % 4096) (filled id (at / 4096) cs)) (filled id (at / 4096) cs == 4096)) isnt
    ∙ ap (λ (b : Bool). stepped more id extent cs at false b (filled id (at / 4096) cs == 4096)) (none_below (at % 4096) (filled id (at / 4096) cs) (none (at / 4096)))

reached : (more id extent : ℕ) (cs : List Chunk) (at : ℕ) (b : Bool) → nat_lt at extent ≡ b → ((index : ℕ) → filled id index cs ≡ 0) → reach (suc (suc more)) id extent cs at ≡ cond b extent at
reached more id extent cs at true is none =
    ap (λ (b : Bool). stepped (suc more) id extent cs at b (nat_lt (at % 4096) (filled id (at / 4096) cs)) (filled id (at / 4096) cs == 4096)) is ∙ stays more id extent cs extent (not_less extent) none
reached more id extent cs at false is none = stays (suc more) id extent cs at is none

-- what is before the span is not asked for
below_same : (extent from to : ℕ) (b : Bool) → nat_lt from extent ≡ b → (nat_le to from || nat_le to (cond b extent from)) ≡ (nat_le to from || nat_le to extent)
below_same extent from to true is = refl
below_same extent from to false is = grind (arith, nat_tests, is)

two_more : (n : ℕ) → n + 2 ≡ suc (suc n)
two_more n = omega arith

span_held : (id extent n : ℕ) (cs : List Chunk) (span : ℕ × ℕ) → ((index : ℕ) → filled id index cs ≡ 0) → (nat_le span.1 span.0 || nat_le span.1 (reach (n + 2) id extent cs span.0)) ≡ is_below extent span
span_held id extent n cs span none =
    ap (λ (more : ℕ). nat_le span.1 span.0 || nat_le span.1 (reach more id extent cs span.0)) (two_more n)
    ∙ ap (λ (to : ℕ). nat_le span.1 span.0 || nat_le span.1 to) (reached n id extent cs span.0 (nat_lt span.0 extent) refl none)
    ∙ below_same extent span.0 span.1 (nat_lt span.0 extent) refl

its_extent : (s : State) (key : Bytes) (e : Entry) → ComesIn s key e → extent_of (grown s key e) (known_of s key e) ≡ e.extent
its_extent s key e comes = ap (λ (o : Option Entry). elim o as (λ c. ℕ) [ None ↦ 0 | Some f ↦ f.extent ]) (kept_on_disk s key e comes.kept)

held_same : (s : State) (key : Bytes) (e : Entry) (span : ℕ × ℕ) → ComesIn s key e → is_span_held (grown s key e) (known_of s key e) span ≡ is_below e.extent span
held_same s key e span comes =
    span_held s.next_instance (extent_of (grown s key e) (known_of s key e)) (chunks_in e.version.length) s.chunks span comes.empty
    ∙ ap (λ (extent : ℕ). is_below extent span) (its_extent s key e comes)

-- ---- the row that a decision sees

seen_same : (s : State) (key : Bytes) (e : Entry) (head : Request) → ComesIn s key e → of_instance (grown s key e) head (known_of s key e) ≡ of_entry head e
seen_same s key e head comes = ap (λ (b : Bool). record { version = e.version; fields = e.fields; times = e.times; held = b }) (held_same s key e (shown_span head e.version) comes)

abbrev seen_by : State → Request → Option Instance → Option Entry → Option Row
seen_by s head o kept = elim o [ Some x ↦ Some (of_instance s head x) | None ↦ elim kept [ None ↦ None | Some e ↦ Some (of_entry head e) ] ]

row_joined : (s : State) (key other : Bytes) (e : Entry) → row (grown s key e) other ≡ first_of_two (row s other) (cond (bytes_eq key other) (Some (known_of s key e)) None)
row_joined s key other e = find_joined (is_row_of other) s.instances (known_of s key e ∷ [])

row_by : (s : State) (key other : Bytes) (e : Entry) (head : Request) (o : Option Instance) (b : Bool) → ComesIn s key e → row s other ≡ o → bytes_eq key other ≡ b
    → seen_by (grown s key e) head (first_of_two o (cond b (Some (known_of s key e)) None)) (row_on_disk s other) ≡ seen_by s head o (row_on_disk s other)
row_by s key other e head (Some x) b comes is same = refl
row_by s key other e head None false comes is same = refl
row_by s key other e head None true comes is same =
    ap (λ (r : Row). Some r) (seen_same s key e head comes)
    ∙ ap (λ (f : Option Entry). elim f as (λ c. Option Row) [ None ↦ None | Some g ↦ Some (of_entry head g) ]) (sym comes.kept ∙ ap (λ (text : Bytes). row_on_disk s text) ((bytes_eq-Decides key other).0 same))

row_same : (s : State) (key other : Bytes) (e : Entry) (head : Request) → ComesIn s key e → row_for (grown s key e) head other ≡ row_for s head other
row_same s key other e head comes =
    ap (λ (o : Option Instance). seen_by (grown s key e) head o (row_on_disk s other)) (row_joined s key other e) ∙ row_by s key other e head (row s other) (bytes_eq key other) comes refl refl

-- ---- what its exchange brought

other_than : (n m : ℕ) → m < n → (n == m) ≡ false
other_than n m less = grind (arith, nat_tests, less)

joined_by : (s : State) (key : Bytes) (e : Entry) (id : ℕ) (o : Option Instance) (b : Bool) → id < s.next_instance
    → is_some_with (λ x. x.id == id) (first_of_two o (cond b (Some (known_of s key e)) None)) ≡ is_some_with (λ x. x.id == id) o
joined_by s key e id (Some x) b made = refl
joined_by s key e id None false made = refl
joined_by s key e id None true made = other_than s.next_instance id made

abbrev begun_by : State → Bytes → Brought → Begun
begun_by s key brought = elim brought [
  | Awaited ↦ Nothing
  | Useless ↦ Nothing
  | Joins id plain ↦ elim (is_some_with (λ x. x.id == id) (row s key)) [ true ↦ Settled | false ↦ Nothing ]
  | Passes p ↦ Other
  | TooWide ↦ Widened
]

begun_same : (s : State) (key other : Bytes) (e : Entry) (brought : Brought) → ((id : ℕ) (plain : Bool) → brought ≡ Joins id plain → id < s.next_instance) → begun_by (grown s key e) other brought ≡ begun_by s other brought
begun_same s key other e Awaited made = refl
begun_same s key other e Useless made = refl
begun_same s key other e (Joins id plain) made =
    ap (λ (b : Bool). elim b as (λ c. Begun) [ true ↦ Settled | false ↦ Nothing ])
    (ap (λ (o : Option Instance). is_some_with (λ x. x.id == id) o) (row_joined s key other e) ∙ joined_by s key e id (row s other) (bytes_eq key other) (made id plain refl))
begun_same s key other e (Passes p) made = refl
begun_same s key other e TooWide made = refl

-- ---- the decision

decide_with : State → Request → Key → Option Row → Begun → Decision
decide_with s head key seen begun = let d = decision head seen begun s.clock in if_fits s head key (kind_of head seen d) d

decided_head : (s : State) (key : Bytes) (e : Entry) (c : Client) (r : Parsed) (refusal : Option ℕ) (own : Result Key TargetFault) → ComesIn s key e → ((id : ℕ) (plain : Bool) → c.brought ≡ Joins id plain → id < s.next_instance)
    → (elim refusal as (λ x. Decision) [ Some status ↦ Refuse status | None ↦ elim own as (λ x. Decision) [ Ok k ↦ decide_for (grown s key e) c r.head k | Err fault ↦ Refuse 400 ] ])
    ≡ (elim refusal as (λ x. Decision) [ Some status ↦ Refuse status | None ↦ elim own as (λ x. Decision) [ Ok k ↦ decide_for s c r.head k | Err fault ↦ Refuse 400 ] ])
unfolding decide_with
decided_head s key e c r (Some status) own comes made = refl
decided_head s key e c r None (Err fault) comes made = refl
decided_head s key e c r None (Ok k) comes made = ap₂ (λ (seen : Option Row) (b : Begun). decide_with s r.head k seen b) (row_same s key (text_of k) e r.head comes) (begun_same s key (text_of k) e c.brought made)

decided_front : (s : State) (key : Bytes) (e : Entry) (c : Client) (front : Front) → ComesIn s key e → ((id : ℕ) (plain : Bool) → c.brought ≡ Joins id plain → id < s.next_instance)
    → (elim front as (λ x. Option Decision) [ NoHeadYet ↦ None | NoHead status ↦ Some (Refuse status) | IsRequest r ↦ Some (decide_head (grown s key e) c r) ])
    ≡ (elim front as (λ x. Option Decision) [ NoHeadYet ↦ None | NoHead status ↦ Some (Refuse status) | IsRequest r ↦ Some (decide_head s c r) ])
decided_front s key e c NoHeadYet comes made = refl
decided_front s key e c (NoHead status) comes made = refl
decided_front s key e c (IsRequest r) comes made = ap (λ (d : Decision). Some d) (decided_head s key e c r (refusal_of r) r.key comes made)

pub decided_same : (s : State) (key : Bytes) (e : Entry) (c : Client) → ComesIn s key e → ((id : ℕ) (plain : Bool) → c.brought ≡ Joins id plain → id < s.next_instance) → decide (grown s key e) c ≡ decide s c
decided_same s key e c comes made = decided_front s key e c c.front comes made
