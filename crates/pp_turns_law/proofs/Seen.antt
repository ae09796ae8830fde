-- What nobody will see of the first exchange of a line.
use Rattle.std.proofs.Common.{◌≡◌, refl, sym, subst, ap, ◌∙◌, ℕ, Bool, true, false, ◌||◌, cond, List, [], ◌∷◌, Some, None, Option}
use Rattle.std.specs.Prelude.{slice_get}
use Rattle.pp_turns_law.proofs.Unseen.{unseen}
use Rattle.pp_cache_law.specs.Pairs.{AreBoth}
use Rattle.pp_flow.specs.Changes.{entry_of, line_of}
use Rattle.pp_flow.specs.declared.entry.Entry.{Entry}
use Rattle.pp_flow_law.specs.Tables.{line_in, none_leaves}
use Rattle.pp_law.specs.Connections.{close_conn, conn, end_exchange, exchange}
use Rattle.pp_law.specs.Lists.{Bytes, has_number}
use Rattle.pp_law.specs.State.{State, Conn, Exchange}
use Rattle.pp_law.specs.Unseen.{drop_on, is_unseen}
use Rattle.pp_desk.specs.Closings.{Sides, dropped_with}
use Rattle.pp_desk.specs.Origins.{unseen_dropped}
use Rattle.pp_seats_law.specs.Exchanges.{ShowsExchange}
use Rattle.pp_states_law.proofs.Lines.{same_itself}
use Rattle.pp_state.specs.Unseen.{is_nobodys, unseen_in, unseen_of}
use Rattle.pp_states_law.proofs.Charged.{number_is}
use Rattle.pp_turns_law.proofs.Dropped.{drops}
use Rattle.pp_turns_law.specs.Sides.{ShowsSides}
use Rattle.pp_turns_law.specs.Unread.{DropsAreTheLaws, Tells}

abbrev pub dropped_if : Conn → State → Exchange → Bool → State
dropped_if k s e b = elim b as (λ t. State) [ true ↦ close_conn false k (end_exchange e.number s) | false ↦ s ]

abbrev pub dropped_first : Conn → State → Option Exchange → State
dropped_first k s o = elim o as (λ t. State) [ None ↦ s | Some e ↦ dropped_if k s e (is_unseen s k e) ]

abbrev pub dropped_line : Conn → State → List ℕ → State
dropped_line k s line = dropped_first k s (elim line as (λ t. Option Exchange) [ [] ↦ None | m ∷ others ↦ exchange s m ])

abbrev pub unseen_line : ℕ → Sides → List ℕ → Sides
unseen_line n x line = unseen_dropped n (unseen_of x.parts.seats x.parts.flow (slice_get line 0)) x

module _ (number : ℕ → ℕ) (name : Bytes) (x : Sides) (s : State) (shows : ShowsSides number name x s) (n : ℕ) (k : Conn) (there : conn s n ≡ Some k) (tells : Tells x s) where
  by_entry : (m : ℕ) (others : List ℕ) → k.line ≡ m ∷ others → (o : Option Entry) (u : Option Exchange) → entry_of m x.parts.flow ≡ o → exchange s m ≡ u → AreBoth (ShowsExchange number) o u
      → ShowsSides number name (unseen_dropped n (unseen_in x.parts.seats m o) x) (dropped_first k s u)
  by_entry m others is None None here known both = shows
  by_entry m others is None (Some d) here known both = absurd both
  by_entry m others is (Some e) None here known both = absurd both
  by_entry m others is (Some e) (Some d) here known both =
      subst (λ (b : Bool). ShowsSides number name (unseen_dropped n (cond b (Some m) None) x) (dropped_if k s d (is_unseen s k d))) (sym same) (settle (is_unseen s k d))
    where
      has : has_number m k.line ≡ true
      has = ap (λ (ns : List ℕ). has_number m ns) is ∙ ap (λ (b : Bool). b || has_number m others) (same_itself m)

      same : is_nobodys x.parts.seats e ≡ is_unseen s k d
      same = unseen number name none_leaves x.peers x.parts s shows.steps k m e d tells.following here known (tells.counted n k there m e has here)

      settle : (b : Bool) → ShowsSides number name (unseen_dropped n (cond b (Some m) None) x) (dropped_if k s d b)
      settle false = shows
      settle true = subst (λ (i : ℕ). ShowsSides number name (dropped_with m n x) (close_conn false k (end_exchange i s))) (sym (number_is m s d known)) (drops number name x s shows m n k there has)

  by_line : (line : List ℕ) → k.line ≡ line → ShowsSides number name (unseen_line n x line) (dropped_line k s line)
  by_line [] is = shows
  by_line (m ∷ others) is = by_entry m others is (entry_of m x.parts.flow) (exchange s m) refl refl (shows.steps.shows.exchanges.each m)

  pub line_is : line_of n x.parts.flow.placed ≡ k.line
  line_is = shows.steps.shows.exchanges.lines n ∙ ap (λ (o : Option Conn). line_in o) there

pub drops_on : DropsAreTheLaws
unfolding drop_on
drops_on number name x s shows n k there tells =
    subst (λ (line : List ℕ). ShowsSides number name (unseen_line n x line) (dropped_line k s k.line)) (sym (line_is number name x s shows n k there tells)) (by_line number name x s shows n k there tells k.line refl)
