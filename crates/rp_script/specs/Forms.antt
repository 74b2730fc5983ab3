-- The words of each form of line, behind the first one.
use Rattle.std.specs.Prelude.{ℕ, ◌^◌, ◌-◌, List, Ok}
use Rattle.rp_base.specs.ClientCounts.{count_of}
use Rattle.rp_script.specs.Readers.{Reader, bad, ◌>>=◌, whole, number_at, any_number_at, key_at, seq_at}
use Rattle.rp_script.specs.Requests.{request}
use Rattle.rp_script.specs.declared.faults.LineKind.TheVariants as kinds
use Rattle.rp_script.specs.declared.keywords.Keyword.{Keyword}
use Rattle.rp_script.specs.declared.keywords.Keyword.TheVariants as keywords
use Rattle.rp_script.specs.declared.lines.ScriptLine.{ScriptLine}
use Rattle.rp_script.specs.declared.lines.ScriptLine.TheVariants as lines

-- a node of the cluster, a range, a client
abbrev pub node_at : ℕ → ℕ → Reader ℕ
node_at at nodes = number_at at 1 nodes

abbrev pub range_at : ℕ → Reader ℕ
range_at at = number_at at 0 7

abbrev pub client_at : ℕ → Reader ℕ
client_at at = number_at at 1 64

-- `cluster N`
unfoldable pub cluster : Reader ScriptLine
cluster = do
  nodes ← number_at 2 1 5
  whole 3 (lines.Cluster nodes)

-- `send N R C REQUEST`
unfoldable pub send : ℕ → Reader ScriptLine
send nodes = do
  node ← node_at 2 nodes
  range ← range_at 3
  client ← client_at 4
  asked ← request
  λ rest. Ok (lines.Send node range client asked)

-- `admit N R C REQUEST`
unfoldable pub admit : ℕ → Reader ScriptLine
admit nodes = do
  node ← node_at 2 nodes
  range ← range_at 3
  client ← client_at 4
  asked ← request
  λ rest. Ok (lines.Admit node range client asked)

-- `again N R C S`
unfoldable pub again : ℕ → List ℕ → Reader ScriptLine
again nodes commands = do
  node ← node_at 2 nodes
  range ← range_at 3
  client ← client_at 4
  seq ← seq_at 5 (count_of commands client)
  whole 6 (lines.Again node range client seq)

-- `draw C S`
unfoldable pub draw : List ℕ → Reader ScriptLine
draw commands = do
  client ← client_at 2
  seq ← seq_at 3 (count_of commands client)
  whole 4 (lines.Draw client seq)

-- `publish C S`
unfoldable pub publish : List ℕ → Reader ScriptLine
publish commands = do
  client ← client_at 2
  seq ← seq_at 3 (count_of commands client)
  whole 4 (lines.Publish client seq)

-- `ask N R`
unfoldable pub ask : ℕ → Reader ScriptLine
ask nodes = do
  node ← node_at 2 nodes
  range ← range_at 3
  whole 4 (lines.Ask node range)

-- `transfer N R M`
unfoldable pub transfer : ℕ → Reader ScriptLine
transfer nodes = do
  node ← node_at 2 nodes
  range ← range_at 3
  to ← node_at 4 nodes
  whole 5 (lines.Transfer node range to)

-- `flush N R`
unfoldable pub flush : ℕ → Reader ScriptLine
flush nodes = do
  node ← node_at 2 nodes
  range ← range_at 3
  whole 4 (lines.Flush node range)

-- `apply N R`
unfoldable pub apply : ℕ → Reader ScriptLine
apply nodes = do
  node ← node_at 2 nodes
  range ← range_at 3
  whole 4 (lines.Apply node range)

-- `cut N R`
unfoldable pub cut : ℕ → Reader ScriptLine
cut nodes = do
  node ← node_at 2 nodes
  range ← range_at 3
  whole 4 (lines.Cut node range)

-- `remove N R`
unfoldable pub remove : ℕ → Reader ScriptLine
remove nodes = do
  node ← node_at 2 nodes
  range ← range_at 3
  whole 4 (lines.Remove node range)

-- `restart N`
unfoldable pub restart : ℕ → Reader ScriptLine
restart nodes = do
  node ← node_at 2 nodes
  whole 3 (lines.Restart node)

-- `tick N K`
unfoldable pub tick : ℕ → Reader ScriptLine
tick nodes = do
  node ← node_at 2 nodes
  count ← number_at 3 1 10000
  whole 4 (lines.Tick node count)

-- `deliver N I`
unfoldable pub deliver : ℕ → Reader ScriptLine
deliver nodes = do
  node ← node_at 2 nodes
  number ← number_at 3 1 (2 ^ 64 - 1)
  whole 4 (lines.Deliver node number)

-- `peek N R KEY`
unfoldable pub peek : ℕ → Reader ScriptLine
peek nodes = do
  node ← node_at 2 nodes
  range ← range_at 3
  key ← key_at 4
  whole 5 (lines.Peek node range key)

-- `loss P S`
unfoldable pub loss : Reader ScriptLine
loss = do
  percent ← number_at 2 0 50
  salt ← any_number_at 3
  whole 4 (lines.Loss percent salt)

-- `settle K`
unfoldable pub settle : Reader ScriptLine
settle = do
  rounds ← number_at 2 1 10000
  whole 3 (lines.Settle rounds)

-- `end`
abbrev pub ending : Reader ScriptLine
ending = whole 2 lines.End

-- the words behind the first one of a line, given the number of nodes and how many commands each client has
unfoldable pub form : Keyword → ℕ → List ℕ → Reader ScriptLine
form keywords.Cluster nodes commands = cluster
form keywords.Send nodes commands = send nodes
form keywords.Admit nodes commands = admit nodes
form keywords.Again nodes commands = again nodes commands
form keywords.Draw nodes commands = draw commands
form keywords.Publish nodes commands = publish commands
form keywords.Ask nodes commands = ask nodes
form keywords.Transfer nodes commands = transfer nodes
form keywords.Flush nodes commands = flush nodes
form keywords.Apply nodes commands = apply nodes
form keywords.Cut nodes commands = cut nodes
form keywords.Remove nodes commands = remove nodes
form keywords.Restart nodes commands = restart nodes
form keywords.Tick nodes commands = tick nodes
form keywords.Deliver nodes commands = deliver nodes
form keywords.Peek nodes commands = peek nodes
form keywords.Loss nodes commands = loss
form keywords.Settle nodes commands = settle
form keywords.End nodes commands = ending
form keywords.Unknown nodes commands = λ words. bad 1 kinds.UnknownWord
