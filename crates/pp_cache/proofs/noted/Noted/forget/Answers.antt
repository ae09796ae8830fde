use Rattle.std.proofs.Common.{◌∙◌, ap, sym}
use Rattle.pp_cache.specs.Notes.{IsFirst, keys_of}
use Rattle.pp_cache.proofs.NotesLemmas.{absent-unnoted, first-unnoted, keys-remove}
use Rattle.pp_cache.proofs.noted.Noted.forget.Goals as goal

pub returns-in-Some : goal.returns-in-Some
returns-in-Some c =
    let first : IsFirst c.args.key.now (keys_of c.self.inside.keys.items) c.in-Some.place = rw (← c.deref.ensures.value) c.in-Some.ensures.some in
    rw (← c.self.view_is) (ap keys_of c.remove-room.ensures.items ∙ keys-remove c.self.inside.keys.items c.in-Some.place ∙ sym (first-unnoted c.args.key.now (keys_of c.self.inside.keys.items) c.in-Some.place first))

pub returns-in_default : goal.returns-in_default
returns-in_default c = rw (← c.self.view_is) (sym (absent-unnoted c.args.key.now (keys_of c.self.inside.keys.items) (rw (← c.deref.ensures.value) c.in_default.ensures.none)))
