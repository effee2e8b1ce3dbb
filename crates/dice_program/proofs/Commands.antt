-- The entries of lines, one behind the other, and their commands.
use Rattle.std.proofs.Common.{◌≡◌, ℕ, List, [], ◌∷◌, ◌++◌, refl, sym, ap, subst, ◌∙◌, append_assoc, append-nil}
use Rattle.dice_command.specs.declared.command.Command.{Command}
use Rattle.dice_command.specs.Command.{IsCommandOf}
use Rattle.dice_session.specs.World.{World, reply_of, replies_from, world_after}
use Rattle.dice_program.specs.Entries.{Entry, Position, Between, Behind, line_entries, line_position, entries_from, position_after, whole_entries, position_of, open_entries, script_entries, AreCommandsOf}

pub after-append : (w : World) (cs ds : List Command) → world_after w (cs ++ ds) ≡ world_after (world_after w cs) ds
after-append w [] ds = refl
after-append w (c ∷ cs) ds = after-append (reply_of w c).world cs ds

pub replies-append : (w : World) (cs ds : List Command) → replies_from w (cs ++ ds) ≡ replies_from w cs ++ replies_from (world_after w cs) ds
replies-append w [] ds = refl
replies-append w (c ∷ cs) ds =
    ap (λ r. (reply_of w c).text ++ r) (replies-append (reply_of w c).world cs ds)
    ∙ sym (append_assoc (reply_of w c).text (replies_from (reply_of w c).world cs) (replies_from (world_after (reply_of w c).world cs) ds))

pub after-push : (w : World) (cs : List Command) (c : Command) → world_after w (cs ++ c ∷ []) ≡ (reply_of (world_after w cs) c).world
after-push w cs c = after-append w cs (c ∷ [])

pub commands-append : (es fs : List Entry) (cs ds : List Command) → AreCommandsOf es cs → AreCommandsOf fs ds → AreCommandsOf (es ++ fs) (cs ++ ds)
commands-append [] fs [] ds p q = q
commands-append [] fs (c ∷ cs) ds p q = absurd p
commands-append (e ∷ es) fs [] ds p q = absurd p
commands-append (e ∷ es) fs (c ∷ cs) ds p q = (p.0, commands-append es fs cs ds p.1 q)

pub commands-one : (es : List Entry) (e : Entry) (c : Command) → es ≡ e ∷ [] → IsCommandOf e.line e.text c → AreCommandsOf es (c ∷ [])
commands-one es e c is reads = subst (λ xs. AreCommandsOf xs (c ∷ [])) (sym is) (reads, tt)

-- ---- entries

pub entries-append : (at : Position) (ls ms : List (List ℕ)) → entries_from at (ls ++ ms) ≡ entries_from at ls ++ entries_from (position_after at ls) ms
entries-append at [] ms = refl
entries-append at (l ∷ ls) ms =
    ap (λ r. line_entries at l ++ r) (entries-append (line_position at l) ls ms)
    ∙ sym (append_assoc (line_entries at l) (entries_from (line_position at l) ls) (entries_from (position_after (line_position at l) ls) ms))

pub position-append : (at : Position) (ls ms : List (List ℕ)) → position_after at (ls ++ ms) ≡ position_after (position_after at ls) ms
position-append at [] ms = refl
position-append at (l ∷ ls) ms = position-append (line_position at l) ls ms

pub entries-one : (at : Position) (l : List ℕ) → entries_from at (l ∷ []) ≡ line_entries at l
entries-one at l = append-nil (line_entries at l)

pub entries-push : (ls : List (List ℕ)) (l : List ℕ) → whole_entries (ls ++ l ∷ []) ≡ whole_entries ls ++ line_entries (position_of ls) l
entries-push ls l = entries-append Between ls (l ∷ []) ∙ ap (λ r. whole_entries ls ++ r) (entries-one (position_of ls) l)

pub position-push : (ls : List (List ℕ)) (l : List ℕ) → position_of (ls ++ l ∷ []) ≡ line_position (position_of ls) l
position-push ls l = position-append Between ls (l ∷ [])

-- ---- behind `quit`

behind-position : (ls : List (List ℕ)) → position_after Behind ls ≡ Behind
behind-position [] = refl
behind-position (l ∷ ls) = behind-position ls

behind-entries : (ls : List (List ℕ)) → entries_from Behind ls ≡ []
behind-entries [] = refl
behind-entries (l ∷ ls) = behind-entries ls

-- what follows `quit` adds nothing
pub quit-entries : (ls ms : List (List ℕ)) → position_of ls ≡ Behind → script_entries (ls ++ ms) ≡ whole_entries ls
quit-entries ls ms over =
    let at : position_of (ls ++ ms) ≡ Behind = position-append Between ls ms ∙ ap (λ p. position_after p ms) over ∙ behind-position ms in
    let none : entries_from (position_of ls) ms ≡ [] = ap (λ p. entries_from p ms) over ∙ behind-entries ms in
    ap (λ p. whole_entries (ls ++ ms) ++ open_entries p) at ∙ append-nil (whole_entries (ls ++ ms))
    ∙ entries-append Between ls ms ∙ ap (λ r. whole_entries ls ++ r) none ∙ append-nil (whole_entries ls)
