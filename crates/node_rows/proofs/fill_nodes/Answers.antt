-- `node_rows::fill_nodes` meets its contract: each row by its order. Assumes nothing.
use Rattle.node_rows.proofs.fill_nodes.Goals as goal

pub returns-in-5 : goal.returns-in-5
returns-in-5 c = rw c.in-5.is c.fill_row-in-5.ensures

pub returns-in-6 : goal.returns-in-6
returns-in-6 c = rw c.in-6.is c.fill_row-in-6.ensures

pub returns-in-7 : goal.returns-in-7
returns-in-7 c = rw c.in-7.is c.fill_row-in-7.ensures

pub returns-in-8 : goal.returns-in-8
returns-in-8 c = rw c.in-8.is c.fill_row-in-8.ensures

pub returns-in-9 : goal.returns-in-9
returns-in-9 c = rw c.in-9.is c.fill_row-in-9.ensures

pub returns-in-10 : goal.returns-in-10
returns-in-10 c = rw c.in-10.is c.fill_row-in-10.ensures
