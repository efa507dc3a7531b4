-- The line `turn NEXT K ROOM` (02, Item 1): a tick on the watch that is lent, with a list of ROOM keys, all zeros; and its answer as text. Definitions only.
use Rattle.std.specs.Prelude.{ℕ, zero, suc, ◌*◌, cond, List, [], ltb, drop, replicate, Result, Ok, Err}
use Rattle.fields.specs.Text.{spell}
use Rattle.table.specs.Rows.{Watch}
use Rattle.receiver.specs.declared.Part.{Part}
use Rattle.rows.specs.Read.{form}
use Rattle.turns.specs.declared.Turned.{Turned}
use Rattle.table.specs.declared.Refusal.{Refusal}
use Rattle.turns.specs.Turn.{Tick, turn_on}
use Rattle.print.specs.Print.{decimal_text}
use Rattle.grammar.specs.declared.Line.{Line}
use Rattle.grammar.specs.declared.Line.TheVariants as line
use Rattle.answers.specs.Words.{◌then◌}
use Rattle.answers.specs.Answers.{key_text, no_text}

-- the first n keys of a list, a space before each
unfoldable pub keys_text : ℕ → List ℕ → List ℕ
keys_text zero list = []
keys_text (suc n) list = keys_text n list then spell " " then key_text (drop (32 * n) list)

-- `no N`, or `ok COUNT NEXT KEY KEY ..`
abbrev pub turned_text : Result Turned Refusal → List ℕ → List ℕ
turned_text (Err r) list = no_text r
turned_text (Ok t) list = spell "ok " then decimal_text t.count then spell " " then decimal_text t.next then keys_text t.count list then spell "\n"

abbrev pub tick_text : Tick → List ℕ
tick_text t = turned_text t.answer t.list

-- the keys of a list of ROOM; more than 64 are as 64, since a watch here has no more rows
abbrev pub served : ℕ → ℕ
served room = cond (ltb room 64) room 64

unfoldable pub turn_text : Watch Part → ℕ → ℕ → ℕ → List ℕ
turn_text w next k room = tick_text (turn_on form w next k (replicate (32 * served room) 0))

-- of all lines a tick alone is answered here
abbrev pub line_text : Watch Part → Line → List ℕ
line_text w (line.Turn next k room) = turn_text w next k room
line_text w (line.Watch c) = []
line_text w (line.Call c) = []
line_text w line.Digest = []
line_text w (line.Place a b c d) = []
line_text w (line.Same a b c d) = []
line_text w (line.Horizon a b) = []
line_text w (line.Bucket f) = []
line_text w (line.Bit a) = []
line_text w (line.Change m) = []
