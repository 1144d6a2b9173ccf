pub mod PoolMap
