-- What the law leaves as it was, what of it is given up, and where no chunk has to go.
use Rattle.std.proofs.Common.{◌≡◌, ◌⊎◌, inl, inr, refl, sym, ap, ◌∙◌, ℕ, zero, suc, Bool, true, false, ◌&&◌, ◌||◌, not, cond, is_some, length, List, [], ◌∷◌, Option, Some, None}
use Rattle.std.specs.List.{list_any}
use Rattle.pp_holes.specs.Places.{Chunk, without as without_place}
use Rattle.pp_law.specs.After.{evicted}
use Rattle.pp_law.specs.Chunks.{drop_chunk}
use Rattle.pp_law.specs.Closing.{is_over}
use Rattle.pp_law.specs.Followers.{give_up_asks, is_useless_ask, is_wanted_by}
use Rattle.pp_law.specs.Lists.{is_some_with, is_this, without}
use Rattle.pp_law.specs.Phases.{due_victim, in_phase}
use Rattle.pp_law.specs.Stages.{filled_of}
use Rattle.pp_law.specs.State.{State, Client, Chunk as Front, Exchange, Evicting, Keeping}
use Rattle.pp_law.specs.Table.{brings, next_of}
use Rattle.pp_laws.specs.Runs.{IsIn}
use Rattle.pp_leaves_law.specs.Leaves.{evicted_on, left_by}
use Rattle.pp_state.specs.Pins.{pins}
use Rattle.pp_state.specs.declared.state.State.{State as Turn}
use Rattle.pp_steps.specs.Evicting.{all_victims, leaving_chunks, next_victim, victims}
use Rattle.pp_evicting_law.specs.Evicting.{IsElse, left_behind}

-- ---- chunks alone leave

abbrev chunks_in : List Front → State → State
chunks_in cs s = record s { chunks = cs }

abbrev evicted_at : State → Option (ℕ × ℕ) → State
evicted_at s o = elim o as (λ t. State) [ None ↦ s | Some place ↦ drop_chunk place.0 place.1 s ]

one_evicted : (s : State) → evicted s ≡ chunks_in (evicted s).chunks s
unfolding evicted drop_chunk
one_evicted s = by (due_victim s)
  where
    by : (o : Option (ℕ × ℕ)) → evicted_at s o ≡ chunks_in (evicted_at s o).chunks s
    by None = refl
    by (Some at) = refl

all_evicted : (k : ℕ) (s : State) → evicted_on k s ≡ chunks_in (evicted_on k s).chunks s
all_evicted zero s = refl
all_evicted (suc k) s = all_evicted k (evicted s) ∙ ap (λ (t : State). chunks_in (evicted_on k (evicted s)).chunks t) (one_evicted s)

pub left_is : (s : State) → left_by s ≡ record s { forgotten = []; chunks = (left_by s).chunks }
left_is s = all_evicted (length s.chunks) (record s { forgotten = [] })

pub behind_is : (s : State) → left_behind s ≡ record s { phase = Keeping; forgotten = []; chunks = (left_by (in_phase Evicting s)).chunks; exchanges = (left_behind s).exchanges }
unfolding give_up_asks
behind_is s = ap (λ (t : State). record t { phase = Keeping; exchanges = (left_behind s).exchanges }) (left_is (in_phase Evicting s))

pub is_else : (s : State) → IsElse s (left_behind s)
is_else s = ap (λ (t : State). record t { phase = s.phase; forgotten = s.forgotten; chunks = s.chunks; exchanges = s.exchanges }) (behind_is s)

-- ---- an ask that is nobody's and nowhere is given up

all_three : (a b c : Bool) → a ≡ true → b ≡ true → c ≡ true → (a && b && c) ≡ true
all_three a b c x y z = ap (λ (p : Bool). p && b && c) x ∙ ap (λ (p : Bool). true && p && c) y ∙ ap (λ (p : Bool). true && true && p) z

module _ (t : State) where
  nobody_wants : (e : Exchange) → e.asker ≡ None → (cs : List Client) → list_any (is_wanted_by t e) cs ≡ false
  nobody_wants e nobody [] = refl
  nobody_wants e nobody (c ∷ cs) = ap (λ (o : Option ℕ). (is_this c.number o && is_some_with (λ n. brings t n.source n.at e) (next_of t c)) || list_any (is_wanted_by t e) cs) nobody ∙ nobody_wants e nobody cs

  useless : (e : Exchange) → e.asker ≡ None → e.place ≡ None → is_some (filled_of e) ≡ true → is_useless_ask t e ≡ true
  useless e nobody nowhere fills =
      all_three (is_some (filled_of e)) (not (is_some e.place)) (not (list_any (is_wanted_by t e) t.clients)) fills (ap (λ (o : Option ℕ). not (is_some o)) nowhere)
      (ap (λ (b : Bool). not b) (nobody_wants e nobody t.clients))

  goes : (e : Exchange) → (e.asker ≡ None → e.place ≡ None → is_some (filled_of e) ≡ true) → is_useless_ask t e ≡ false → is_over e ≡ false
  goes e fills useful = by e.asker e.place refl refl
    where
      by : (o p : Option ℕ) → e.asker ≡ o → e.place ≡ p → not (is_some o || is_some p) ≡ false
      by None None nobody nowhere = absurd (let bad : true ≡ false = sym (useless e nobody nowhere (fills nobody nowhere)) ∙ useful in cc bad)
      by None (Some k) nobody at = refl
      by (Some n) p somebody at = refl

  pub none_over : (es : List Exchange) → ((e : Exchange) → IsIn e es → e.asker ≡ None → e.place ≡ None → is_some (filled_of e) ≡ true) → list_any is_over (without (is_useless_ask t) es) ≡ false
  none_over [] fills = refl
  none_over (e ∷ es) fills = by (is_useless_ask t e) refl (none_over es (λ d i. fills d (inr i)))
    where
      by : (b : Bool) → is_useless_ask t e ≡ b → list_any is_over (without (is_useless_ask t) es) ≡ false → list_any is_over (cond (not b) (e ∷ without (is_useless_ask t) es) (without (is_useless_ask t) es)) ≡ false
      by true is rest = rest
      by false is rest = ap (λ (b : Bool). b || list_any is_over (without (is_useless_ask t) es)) (goes e (fills e (inl refl)) is) ∙ rest

-- ---- where none has to go none goes, whatever was reached

no_victims : (k : ℕ) (places : List (ℕ × ℕ)) (low : ℕ) (cs : List Chunk) → next_victim places low cs ≡ None → victims k places low cs ≡ []
no_victims zero places low cs none = refl
no_victims (suc k) places low cs none = ap (λ (o : Option (ℕ × ℕ)). elim o as (λ t. List (ℕ × ℕ)) [ None ↦ [] | Some at ↦ at ∷ victims k places low (without_place at cs) ]) none

abbrev going_if : Turn → Bool → List (ℕ × ℕ)
going_if p b = elim b as (λ t. List (ℕ × ℕ)) [ true ↦ all_victims (pins p) p.floor p.cache.chunks | false ↦ [] ]

pub same_go : (p : Turn) (b : Bool) → (p.is_evicting ≡ b) ⊎ (next_victim (pins p) p.floor p.cache.chunks ≡ None) → leaving_chunks (record p { is_evicting = b }) ≡ leaving_chunks p
same_go p b (inl same) = ap (going_if p) (sym same)
same_go p b (inr none) = empty b ∙ sym (empty p.is_evicting)
  where
    empty : (c : Bool) → going_if p c ≡ []
    empty true = no_victims (length p.cache.chunks) (pins p) p.floor p.cache.chunks none
    empty false = refl
