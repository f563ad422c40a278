use Rattle.port_files.proofs.Closings.{closed-same, closed-among, holds-all}
use Rattle.port_files.proofs.close.close.Goals as goal

pub returns-in-Ok-clause-shut : goal.returns-in-Ok-clause-shut
returns-in-Ok-clause-shut g c = λ tells name. rw c.in-Some.is (λ named held holds. record {
  closed = closed-same name held _ _ (c.close_out.ensures.closed tells name held named holds);
  file = holds-all held _ (c.in-Ok.ensures.held tells name held named holds);
})

pub returns-in-Ok-clause-told : goal.returns-in-Ok-clause-told
returns-in-Ok-clause-told g c = λ tells name. rw c.in-Some.is (λ named held holds. c.in-Ok.ensures.held tells name held named holds)

pub returns-in-Ok-clause-others : goal.returns-in-Ok-clause-others
returns-in-Ok-clause-others g c = λ names. rw c.in-Some.is (λ among told.
    closed-among g.H.Shelf g.H.Out.Sink c.in-Some.out names _ _ (rw c.in-Some.is at c.requires) among told c.close_out.ensures.others
    c.close_out.ensures.closed c.close_out.ensures.faults.never_falls)

pub returns-in-Err-Failed-clause-shut : goal.returns-in-Err-Failed-clause-shut
returns-in-Err-Failed-clause-shut g c = λ tells name. rw c.in-Some.is (λ named held holds. record {
  closed = closed-same name held _ _ (c.close_out.ensures.closed tells name held named holds);
  file = c.in-Err-Failed.ensures.refused tells name held named holds;
})

pub returns-in-Err-Failed-clause-others : goal.returns-in-Err-Failed-clause-others
returns-in-Err-Failed-clause-others g c = λ names. rw c.in-Some.is (λ among told.
    closed-among g.H.Shelf g.H.Out.Sink c.in-Some.out names _ _ (rw c.in-Some.is at c.requires) among told c.close_out.ensures.others
    c.close_out.ensures.closed c.close_out.ensures.faults.never_falls)

pub returns-in-Err-NoMemory-clause-shut : goal.returns-in-Err-NoMemory-clause-shut
returns-in-Err-NoMemory-clause-shut g c = λ tells name. rw c.in-Some.is (λ named held holds. record {
  closed = closed-same name held _ _ (c.close_out.ensures.closed tells name held named holds);
  file = c.in-Err-NoMemory.ensures.refused tells name held named holds;
})

pub returns-in-Err-NoMemory-clause-others : goal.returns-in-Err-NoMemory-clause-others
returns-in-Err-NoMemory-clause-others g c = λ names. rw c.in-Some.is (λ among told.
    closed-among g.H.Shelf g.H.Out.Sink c.in-Some.out names _ _ (rw c.in-Some.is at c.requires) among told c.close_out.ensures.others
    c.close_out.ensures.closed c.close_out.ensures.faults.never_falls)
