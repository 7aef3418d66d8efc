-- Where a session stands in its input and in the buffer of its answers.
use Rattle.std.specs.Prelude.{◌≡◌, List, ℕ, ◌≤◌, ◌<◌, length}
use Rattle.rehearsal.specs.declared.Session.{Session}
use Rattle.sayings.specs.Texts.{most_text}
use Rattle.desk.specs.State.{Good}
use Rattle.telling.specs.declared.Going.{Going}

-- the desk is as a call hands it back, and the buffer has room for an answer once what waits is written
pub record Filled (out : List ℕ) (s : Session) (at : ℕ) : Type 0 where
  pub good : Good s.desk
  pub filled : at ≤ length out
  pub large : most_text ≤ length out

-- the session stands at the same place in the input
pub record Ran (out : List ℕ) (g h : Going) : Type 0 where
  pub place : h.place ≡ g.place
  pub buffer : Filled out h.session h.at

-- there is a line to be read
pub record Ready (input out : List ℕ) (g : Going) : Type 0 where
  pub more : g.place.from < length input
  pub lines : g.place.lines ≤ g.place.from
  pub buffer : Filled out g.session g.at

-- the session stands further on in the input
pub record Onto (input out : List ℕ) (g h : Going) : Type 0 where
  pub further : g.place.from < h.place.from
  pub inside : h.place.from ≤ length input
  pub lines : h.place.lines ≤ h.place.from
  pub buffer : Filled out h.session h.at
